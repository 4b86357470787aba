use Rattle.std.proofs.Common.{◌≡◌, ◌≤◌}
use Rattle.node.specs.Views.{predecessor}
use Rattle.node.proofs.views.View.predecessor.Given as goal

-- the nearest server below i is that below the place so far, which is at most i
abbrev pub invariant-loop-k : goal.invariant-loop-k
invariant-loop-k l = record { same : predecessor l.self l.i ≡ predecessor l.self l.k; below : l.k ≤ l.i }

-- each round looks one place lower
abbrev pub decreases-loop-k : goal.decreases-loop-k
decreases-loop-k l = l.k
