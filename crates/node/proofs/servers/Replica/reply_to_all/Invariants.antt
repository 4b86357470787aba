use Rattle.std.proofs.Common.{◌≡◌, ◌++◌}
use Rattle.std.specs.VecDeque.Iter.{deque_iter_rest}
use Rattle.node.specs.Joining.{replies_to}
use Rattle.node.proofs.servers.Replica.reply_to_all.Given as goal

-- the outputs so far with the replies to the reads that are left are the outputs of all
abbrev pub invariant-loop-read : goal.invariant-loop-read
invariant-loop-read l = l.initial.outputs.items ++ replies_to l.self (deque_iter_rest l.initial.read-iterator)
    ≡ l.outputs.items ++ replies_to l.self (deque_iter_rest l.read-iterator)
