use Rattle.std.proofs.Common.{◌≡◌, ◌++◌}
use Rattle.schedules.specs.Settling.{pairs_with}
use Rattle.schedules.proofs.settling.push_pairs_with.Given as goal

-- so far this server is paired with the first others
abbrev pub invariant-loop-j : goal.invariant-loop-j
invariant-loop-j l = l.pairs.items ≡ l.initial.pairs.items ++ pairs_with l.j l.i
