use Rattle.std.proofs.Common.{◌≡◌, ◌++◌, map}
use Rattle.std.specs.Vec.Iter.{into_iter_items}
use Rattle.node.specs.Faces.{base_step}
use Rattle.node.proofs.faces.put_base.Given as goal

-- the steps so far with those of the keys that are left are the steps of all
abbrev pub invariant-loop-key : goal.invariant-loop-key
invariant-loop-key l = l.steps.items ++ map base_step (into_iter_items l.key-iterator) ≡ l.initial.steps.items
    ++ map base_step l.fn.items.items
