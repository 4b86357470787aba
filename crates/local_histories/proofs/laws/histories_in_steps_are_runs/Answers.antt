use Rattle.local_histories.proofs.LocalSteps.{each_follows}
use Rattle.local_histories.proofs.OneOrder.{order_of_run}
use Rattle.local_histories.proofs.Runs.{are_run}
use Rattle.local_histories.proofs.laws.histories_in_steps_are_runs.Goals as goal

pub returns-clause-run : goal.returns-clause-run
returns-clause-run c s es opened of rules steps = are_run s es opened of (each_follows s es of rules steps)

pub returns-clause-order : goal.returns-clause-order
returns-clause-order c s es few opened of rules steps =
    order_of_run s es (are_run s es opened of (each_follows s es of rules steps)) few
