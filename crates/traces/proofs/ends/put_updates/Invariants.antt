use Rattle.std.proofs.Common.{◌≡◌, ◌++◌, flat_map}
use Rattle.std.specs.VecDeque.Iter.{deque_iter_rest}
use Rattle.traces.specs.Ends.{update_line}
use Rattle.traces.proofs.ends.put_updates.Given as goal

abbrev pub invariant-loop-update : goal.invariant-loop-update
invariant-loop-update l = l.initial.text ++ flat_map update_line (deque_iter_rest l.initial.update-iterator)
    ≡ l.text ++ flat_map update_line (deque_iter_rest l.update-iterator)
