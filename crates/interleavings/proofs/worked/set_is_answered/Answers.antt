use Rattle.interleavings.proofs.examples.Answered.{set_answered, set_moves_asked}
use Rattle.interleavings.proofs.examples.QuietRuns.{set_quiet}
use Rattle.interleavings.proofs.worked.set_is_answered.Goals as goal

pub returns-clause-answered : goal.returns-clause-answered
returns-clause-answered c = set_answered

pub returns-clause-asked : goal.returns-clause-asked
returns-clause-asked c = set_moves_asked

pub returns-clause-quiet : goal.returns-clause-quiet
returns-clause-quiet c = set_quiet
