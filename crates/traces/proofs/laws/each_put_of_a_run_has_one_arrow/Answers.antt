use Rattle.traces.proofs.RunWays.{each_of_run}
use Rattle.traces.proofs.laws.each_put_of_a_run_has_one_arrow.Goals as goal

pub returns : goal.returns
returns c = each_of_run
