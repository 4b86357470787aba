use Rattle.std.proofs.Common.{◌≡◌, ◌++◌, drop}
use Rattle.traces.specs.Arrows.{laid_from}
use Rattle.traces.proofs.arrows.lay_all.Given as goal

abbrev pub invariant-loop-way : goal.invariant-loop-way
invariant-loop-way l =
    l.arrows.items ++ laid_from l.puts l.takes l.row (drop l.way-index l.ways)
    ≡ laid_from l.puts l.takes l.first l.ways
