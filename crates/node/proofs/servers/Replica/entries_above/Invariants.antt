use Rattle.std.proofs.Common.{◌≡◌, ◌++◌}
use Rattle.std.specs.VecDeque.Iter.{deque_iter_rest}
use Rattle.node.proofs.servers.Replica.entries_above.Given as goal

-- the copies so far with the entries that are left are all entries above the number
abbrev pub invariant-loop-entry : goal.invariant-loop-entry
invariant-loop-entry l = l.initial.entries.items ++ deque_iter_rest l.initial.entry-iterator
    ≡ l.entries.items ++ deque_iter_rest l.entry-iterator
