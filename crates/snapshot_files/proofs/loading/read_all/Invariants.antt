use Rattle.std.proofs.Common.{◌≡◌, ◌++◌}
use Rattle.snapshots.specs.Readings.{Waits}
use Rattle.snapshots.specs.Histories.{AreRead}
use Rattle.snapshot_files.specs.Loading.{come}
use Rattle.snapshot_files.proofs.loading.read_all.Given as goal

abbrev pub invariant-loop : goal.invariant-loop
invariant-loop g l =
    record {
      came : g.S.Source.given l.source ≡ g.S.Source.given l.fn.source ++ come l.reader;
      read : AreRead l.rows.items l.reader.progress;
      waits : Waits l.reader;
      none_failed : g.S.Source.failures l.source ≡ g.S.Source.failures l.fn.source;
    }
