use Rattle.std.proofs.Common.{◌≡◌, ◌-◌, ◌++◌, map, take}
use Rattle.std.specs.VecDeque.Iter.{deque_iter_rest}
use Rattle.versions.specs.Numbers.{IsRising}
use Rattle.node.specs.declared.servers.OpenUpdate.{OpenUpdate}
use Rattle.node.specs.Numbering.{left_open, replies}
use Rattle.node.proofs.forwarding.settle_first.Given as goal

-- settling the entries that are left, in the calls open so far, is settling all; the calls stay in order
abbrev pub invariant-loop-settled : goal.invariant-loop-settled
invariant-loop-settled l = record {
  order : IsRising 0 (map (λ (u : OpenUpdate). u.id) l.pend.items);
  left : left_open l.id l.initial.pend.items (take l.count (deque_iter_rest l.initial.entries))
      ≡ left_open l.id l.pend.items (take (l.count - l._settled) (deque_iter_rest l.entries));
  replies : l.initial.outputs.items ++ replies l.id l.initial.pend.items
      (take l.count (deque_iter_rest l.initial.entries)) ≡ l.outputs.items ++ replies l.id l.pend.items
      (take (l.count - l._settled) (deque_iter_rest l.entries));
}
