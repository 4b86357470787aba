use Rattle.std.proofs.Common.{◌≡◌}
use Rattle.successions.specs.Decisions.{highest_below}
use Rattle.successions.proofs.decisions.Decision.highest.Given as goal

-- it is the highest of those before
abbrev pub invariant-loop-i : goal.invariant-loop-i
invariant-loop-i l = l.highest ≡ highest_below l.self l.i
