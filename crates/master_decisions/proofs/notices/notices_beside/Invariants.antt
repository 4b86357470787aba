use Rattle.std.proofs.Common.{◌≡◌, ◌-◌, ◌++◌}
use Rattle.node.specs.Masters.{notices_from}
use Rattle.master_decisions.proofs.notices.notices_beside.Given as goal

abbrev pub invariant-loop-i : goal.invariant-loop-i
invariant-loop-i l = notices_from l.gone l.j 0 l.count ≡ l.given.items ++ notices_from l.gone l.j l.i (l.count - l.i)
