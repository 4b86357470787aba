use Rattle.std.proofs.Common.{◌≡◌}
use Rattle.seals.specs.Seals.{all_below, is_level}
use Rattle.seals.proofs.seals.Seal.are_level.Given as goal

-- whether none of those before has to be waited for
abbrev pub invariant-loop-i : goal.invariant-loop-i
invariant-loop-i l = l.level ≡ all_below (is_level l.self l.numbers) l.i
