use Rattle.local_histories.proofs.StepsOfTurns.{each_steps}
use Rattle.local_histories.proofs.laws.turns_are_steps.Goals as goal

pub returns : goal.returns
returns c s es few opened of right n e here = each_steps s es few opened of right n e here
