use Rattle.std.proofs.Common.{◌≡◌, ◌-◌}
use Rattle.node.specs.Views.{next_from}
use Rattle.node.proofs.views.View.next_from.Given as goal

-- the nearest server from k on is that from the place so far on
abbrev pub invariant-loop-i : goal.invariant-loop-i
invariant-loop-i l = next_from l.self l.k (l.count - l.k) ≡ next_from l.self l.i (l.count - l.i)
