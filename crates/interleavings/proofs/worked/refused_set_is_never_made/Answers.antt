use Rattle.interleavings.proofs.examples.RefusedSet.{outcomes_are, calls_are, written_is}
use Rattle.interleavings.proofs.worked.refused_set_is_never_made.Goals as goal

pub returns-clause-outcomes : goal.returns-clause-outcomes
returns-clause-outcomes c = outcomes_are

pub returns-clause-calls : goal.returns-clause-calls
returns-clause-calls c = calls_are

pub returns-clause-written : goal.returns-clause-written
returns-clause-written c = written_is
