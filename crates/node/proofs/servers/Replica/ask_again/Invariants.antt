use Rattle.std.proofs.Common.{◌≡◌, ◌++◌}
use Rattle.std.specs.VecDeque.Iter.{deque_iter_rest}
use Rattle.node.specs.Joining.{asked_again}
use Rattle.node.proofs.servers.Replica.ask_again.Given as goal

-- the outputs so far with the queries of the reads that are left are the outputs of all
abbrev pub invariant-loop-read : goal.invariant-loop-read
invariant-loop-read l = l.initial.outputs.items ++ asked_again l.self (deque_iter_rest l.initial.read-iterator)
    ≡ l.outputs.items ++ asked_again l.self (deque_iter_rest l.read-iterator)
