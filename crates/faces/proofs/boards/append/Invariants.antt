use Rattle.std.proofs.Common.{◌≡◌, ◌++◌, drop, map}
use Rattle.std.specs.Vec.Iter.{into_iter_items}
use Rattle.faces.specs.Shown.{act_of}
use Rattle.faces.proofs.boards.append.Given as goal

abbrev pub invariant-loop-step : goal.invariant-loop-step
invariant-loop-step l = record {
  desk : l.writer.desk ≡ l.initial.writer.desk;
  acts : drop l.writer.behind l.writer.log.items ++ map act_of (into_iter_items l.step-iterator)
      ≡ map act_of l.fn.change.steps.items;
}
