use Rattle.std.proofs.Common.{◌≡◌}
use Rattle.seals.specs.Seals.{all_below, has_passed}
use Rattle.seals.proofs.seals.have_passed.Given as goal

-- whether the markers of those before have come
abbrev pub invariant-loop-thread : goal.invariant-loop-thread
invariant-loop-thread l = l.all ≡ all_below (has_passed l.passed) l.thread
