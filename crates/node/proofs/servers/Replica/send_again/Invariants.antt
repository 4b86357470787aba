use Rattle.std.proofs.Common.{◌≡◌, ◌++◌}
use Rattle.std.specs.VecDeque.Iter.{deque_iter_rest}
use Rattle.node.specs.Joining.{sent_again}
use Rattle.node.proofs.servers.Replica.send_again.Given as goal

-- the outputs so far with the messages of the calls that are left are the outputs of all
abbrev pub invariant-loop-update : goal.invariant-loop-update
invariant-loop-update l = l.initial.outputs.items ++ sent_again l.self (deque_iter_rest l.initial.update-iterator)
    ≡ l.outputs.items ++ sent_again l.self (deque_iter_rest l.update-iterator)
