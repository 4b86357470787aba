use Rattle.std.proofs.Common.{◌≡◌, ◌≤◌}
use Rattle.master_decisions.specs.LinkEnds.{apart_below}
use Rattle.master_decisions.proofs.link_ends.apart_from.Given as goal

-- those so far are counted
abbrev pub invariant-loop-i : goal.invariant-loop-i
invariant-loop-i l = record {
  count : l.count ≡ apart_below l.i l.links.said l.living l.j;
  most : l.count ≤ l.i;
}
