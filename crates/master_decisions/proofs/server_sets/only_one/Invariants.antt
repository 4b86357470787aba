use Rattle.std.proofs.Common.{◌≡◌, ℕ, ◌<◌}
use Rattle.node.specs.Views.{single}
use Rattle.master_decisions.proofs.server_sets.only_one.Given as goal

-- they are none of those so far
abbrev pub invariant-loop-i : goal.invariant-loop-i
invariant-loop-i l = (k : ℕ) → k < l.i → l.these ≡ single k → ⊥
