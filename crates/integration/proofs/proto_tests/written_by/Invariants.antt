use Rattle.std.proofs.Common.{◌≡◌, None}
use Rattle.integration.proofs.proto_tests.written_by.Given as goal

abbrev pub invariant-loop-part : goal.invariant-loop-part
invariant-loop-part l = (goal.iterator-loop-part).can_next l.part-iterator
    × (goal.iterator-loop-part).is_finite l.part-iterator × (l.session.asked ≡ None)
