use Rattle.local_histories.proofs.OneOrder.{order_of_run}
use Rattle.local_histories.proofs.Runs.{are_run}
use Rattle.local_histories.proofs.laws.following_events_are_runs.Goals as goal

pub returns-clause-run : goal.returns-clause-run
returns-clause-run c s es opened of each = are_run s es opened of each

pub returns-clause-order : goal.returns-clause-order
returns-clause-order c s es few opened of each = order_of_run s es (are_run s es opened of each) few
