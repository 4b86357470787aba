use Rattle.std.proofs.Common.{◌≡◌, ◌++◌, flat_map}
use Rattle.std.specs.VecDeque.Iter.{deque_iter_rest}
use Rattle.traces.specs.Ends.{read_line}
use Rattle.traces.proofs.ends.put_reads.Given as goal

abbrev pub invariant-loop-read : goal.invariant-loop-read
invariant-loop-read l = l.initial.text ++ flat_map read_line (deque_iter_rest l.initial.read-iterator)
    ≡ l.text ++ flat_map read_line (deque_iter_rest l.read-iterator)
