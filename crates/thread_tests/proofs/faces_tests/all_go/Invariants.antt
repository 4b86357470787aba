use Rattle.std.proofs.Common.{◌≡◌}
use Rattle.thread_tests.proofs.faces_tests.all_go.Given as goal

abbrev pub invariant-loop-step : goal.invariant-loop-step
invariant-loop-step g l = l.beside.seen.instance ≡ l.publisher.published.instance
