use Rattle.std.proofs.Common.{◌≡◌, ◌++◌, map}
use Rattle.std.specs.Vec.Iter.{into_iter_items}
use Rattle.faces.specs.Shown.{act_of}
use Rattle.faces.proofs.acts.put_steps.Given as goal

abbrev pub invariant-loop-step : goal.invariant-loop-step
invariant-loop-step l = l.acts.items ++ map act_of (into_iter_items l.step-iterator)
    ≡ l.initial.acts.items ++ map act_of l.fn.steps.items
