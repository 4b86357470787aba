use Rattle.std.proofs.Common.{◌≡◌, ◌-◌, ◌≤◌, ◌++◌, length, take}
use Rattle.snapshot_files.proofs.saving.write_all.Given as goal

abbrev pub invariant-loop-at : goal.invariant-loop-at
invariant-loop-at g l =
    record {
      within : l.at ≤ length l.bytes;
      written : g.W.Sink.written l.sink ≡ g.W.Sink.written l.fn.sink ++ take l.at l.bytes;
      none_failed : g.W.Sink.failures l.sink ≡ g.W.Sink.failures l.fn.sink;
    }

abbrev pub decreases-loop-at : goal.decreases-loop-at
decreases-loop-at g l = length l.bytes - l.at
