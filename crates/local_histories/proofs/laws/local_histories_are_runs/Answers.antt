use Rattle.local_histories.proofs.LocalSteps.{each_follows}
use Rattle.local_histories.proofs.OneOrder.{order_of_run}
use Rattle.local_histories.proofs.Runs.{are_run}
use Rattle.local_histories.proofs.StepsOfTurns.{each_steps}
use Rattle.local_histories.proofs.laws.local_histories_are_runs.Goals as goal

pub returns-clause-run : goal.returns-clause-run
returns-clause-run c s es few opened of right =
    are_run s es opened of (each_follows s es of right.rules (each_steps s es few opened of right))

pub returns-clause-order : goal.returns-clause-order
returns-clause-order c s es few opened of right =
    order_of_run s es
    (are_run s es opened of (each_follows s es of right.rules (each_steps s es few opened of right))) few
