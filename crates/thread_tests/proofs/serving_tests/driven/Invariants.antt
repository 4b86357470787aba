use Rattle.std.proofs.Common.{◌≡◌, []}
use Rattle.thread_tests.proofs.serving_tests.driven.Given as goal

abbrev pub invariant-loop : goal.invariant-loop
invariant-loop l = l.connection.waiting ≡ []
