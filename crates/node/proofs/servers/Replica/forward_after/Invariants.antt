use Rattle.std.proofs.Common.{◌≡◌, ◌++◌}
use Rattle.std.specs.VecDeque.Iter.{deque_iter_rest}
use Rattle.node.specs.Joining.{forwarded}
use Rattle.node.proofs.servers.Replica.forward_after.Given as goal

-- the outputs so far with the forwards of the entries that are left are the outputs of all
abbrev pub invariant-loop-entry : goal.invariant-loop-entry
invariant-loop-entry l = l.initial.outputs.items ++ forwarded l.self (deque_iter_rest l.initial.entry-iterator)
    ≡ l.outputs.items ++ forwarded l.self (deque_iter_rest l.entry-iterator)
