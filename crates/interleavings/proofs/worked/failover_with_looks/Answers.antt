use Rattle.interleavings.proofs.examples.Answered.{failover_dirty, failover_stored, failover_shown, failover_asked}
use Rattle.interleavings.proofs.examples.QuietRuns.{failover_quiet}
use Rattle.interleavings.proofs.worked.failover_with_looks.Goals as goal

pub returns-clause-dirty : goal.returns-clause-dirty
returns-clause-dirty c = failover_dirty

pub returns-clause-stored : goal.returns-clause-stored
returns-clause-stored c = failover_stored

pub returns-clause-shown : goal.returns-clause-shown
returns-clause-shown c = failover_shown

pub returns-clause-asked : goal.returns-clause-asked
returns-clause-asked c = failover_asked

pub returns-clause-quiet : goal.returns-clause-quiet
returns-clause-quiet c = failover_quiet
