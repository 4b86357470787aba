use Rattle.world.proofs.examples.WorkedForgetting.{stuck_forgets}
use Rattle.world.proofs.forgetting.forgotten_call.Goals as goal

-- a world can be quiet, and have forgotten a call
pub returns : goal.returns
returns c = stuck_forgets
