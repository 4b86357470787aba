use Rattle.snapshot_files.specs.Loading.{come}
use Rattle.snapshot_files.proofs.Loads.{handed_on, tells_more}
use Rattle.snapshot_files.proofs.loading.read_all.Goals as goal

pub returns-in_err-read_piece-in-Ok-clause-told : goal.returns-in_err-read_piece-in-Ok-clause-told
returns-in_err-read_piece-in-Ok-clause-told g c =
    handed_on c.from_residual.result c.in_err-read_piece-in-Ok.field-0.0 _ c.from_residual.ensures
    (tells_more c.in_err-read_piece-in-Ok.field-0.0 (g.S.Source.given c.args.source.now)
    (g.S.Source.given c.loop.source) (g.S.Source.given c.read.new.self) (come c.loop.reader) _
    (g.S.Source.has_ended c.read.new.self) c.loop.invariant.came c.in-Ok.ensures.given
    c.in_err-read_piece-in-Ok.ensures.told)
