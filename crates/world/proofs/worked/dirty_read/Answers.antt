use Rattle.world.proofs.examples.WorkedDirtyRead.{dirty_read_before_commit}
use Rattle.world.proofs.examples.WorkedDirtyOrder.{set_before_get}
use Rattle.world.proofs.worked.dirty_read.Goals as goal

-- the read of the dirty key finds nothing, while the set has no reply yet
pub returns-clause-transcript : goal.returns-clause-transcript
returns-clause-transcript c = dirty_read_before_commit

-- no order has the unanswered set before the get
pub returns-clause-set_before_get : goal.returns-clause-set_before_get
returns-clause-set_before_get c h order i j l first second = set_before_get h order i j l first second
