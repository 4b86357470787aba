use Rattle.std.proofs.Common.{◌≡◌}
use Rattle.snapshots.specs.Histories.{AreRead}
use Rattle.snapshot_files.specs.Loading.{come}
use Rattle.snapshot_files.proofs.loading.read_rows.Given as goal

abbrev pub invariant-loop : goal.invariant-loop
invariant-loop l =
    record {
      same : come l.reader ≡ come l.fn.reader;
      read : AreRead l.rows.items l.reader.progress;
    }
