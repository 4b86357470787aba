use Rattle.std.proofs.Common.{◌≡◌, None}
use Rattle.proto.specs.Streams.{most_turns}
use Rattle.integration.proofs.proto_tests.settle.Given as goal

abbrev pub invariant-turns : goal.invariant-turns
invariant-turns l = l.session.asked ≡ None

abbrev pub decreases-turns : goal.decreases-turns
decreases-turns l = most_turns l.session
