use Rattle.std.proofs.Common.{◌≡◌}
use Rattle.std.specs.Prelude.{flat_map}
use Rattle.schedules.specs.Settling.{first_numbers, pairs_with}
use Rattle.schedules.proofs.settling.pairs.Given as goal

-- so far there are the pairs of the first servers with each other one
abbrev pub invariant-loop-i : goal.invariant-loop-i
invariant-loop-i l = l.pairs.items ≡ flat_map (pairs_with l.count) (first_numbers l.i)
