use Rattle.world.proofs.examples.WorkedForgetting.{silent_shown, silent_forgets, acknowledged_waits}
use Rattle.world.proofs.forgetting.new_tail_keeps_silent.Goals as goal

-- if a new tail acknowledges nothing, nothing waits, and the set has no reply
pub returns-clause-transcript : goal.returns-clause-transcript
returns-clause-transcript c = silent_shown

-- a new tail that acknowledges nothing forgets the set
pub returns-clause-forgets : goal.returns-clause-forgets
returns-clause-forgets c = silent_forgets

-- with the step of `node` the reply still waits
pub returns-clause-ordinary : goal.returns-clause-ordinary
returns-clause-ordinary c = acknowledged_waits
