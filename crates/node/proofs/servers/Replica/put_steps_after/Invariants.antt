use Rattle.std.proofs.Common.{◌≡◌, ◌++◌}
use Rattle.std.specs.VecDeque.Iter.{deque_iter_rest}
use Rattle.node.specs.Faces.{face_steps}
use Rattle.node.proofs.servers.Replica.put_steps_after.Given as goal

-- the steps so far with those of the entries that are left are the steps of all
abbrev pub invariant-loop-entry : goal.invariant-loop-entry
invariant-loop-entry l = l.initial.steps.items ++ face_steps (deque_iter_rest l.initial.entry-iterator)
    ≡ l.steps.items ++ face_steps (deque_iter_rest l.entry-iterator)
