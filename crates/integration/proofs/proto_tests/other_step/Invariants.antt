use Rattle.std.proofs.Common.{◌≡◌, None}
use Rattle.integration.proofs.proto_tests.other_step.Given as goal

abbrev pub invariant-loop-step : goal.invariant-loop-step
invariant-loop-step l = l.session.asked ≡ None
