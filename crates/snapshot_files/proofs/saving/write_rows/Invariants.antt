use Rattle.std.proofs.Common.{◌≡◌, ◌≤◌, ◌-◌, length, take}
use Rattle.snapshots.specs.Histories.{HasPassed}
use Rattle.snapshot_files.specs.Saving.{IsOnItsWay}
use Rattle.snapshot_files.proofs.saving.write_rows.Given as goal

abbrev pub invariant-loop-place : goal.invariant-loop-place
invariant-loop-place g l =
    record {
      within : l.place ≤ length l.rows;
      way : IsOnItsWay (g.W.Sink.written l.fn.sink) (g.W.Sink.written l.sink) l.writer.bytes l.out.items l.gone;
      passed : HasPassed (take l.place l.rows) l.writer;
      none_failed : g.W.Sink.failures l.sink ≡ g.W.Sink.failures l.fn.sink;
    }

abbrev pub decreases-loop-place : goal.decreases-loop-place
decreases-loop-place g l = length l.rows - l.place
