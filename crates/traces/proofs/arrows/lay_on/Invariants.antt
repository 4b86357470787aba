use Rattle.std.proofs.Common.{◌≡◌, ◌++◌, drop}
use Rattle.traces.specs.Arrows.{laid, row_laid_all}
use Rattle.traces.proofs.arrows.lay_on.Given as goal

abbrev pub invariant-loop-place : goal.invariant-loop-place
invariant-loop-place l = record {
  laid : l.arrows.items ++ laid l.row l.takes l.place (drop l.place l.puts)
      ≡ l.initial.arrows.items ++ laid l.first l.takes 0 l.puts;
  after : row_laid_all l.row l.takes l.place (drop l.place l.puts) ≡ row_laid_all l.first l.takes 0 l.puts;
}
