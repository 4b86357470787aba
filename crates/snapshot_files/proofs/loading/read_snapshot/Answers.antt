use Rattle.snapshot_files.proofs.Loads.{end_told, handed_on}
use Rattle.snapshot_files.proofs.loading.read_snapshot.Goals as goal

pub returns-in_err-mark-clause-told : goal.returns-in_err-mark-clause-told
returns-in_err-mark-clause-told g c =
    handed_on c.from_residual-in_err-mark.result c.in_err-mark.field-0.0 _ c.from_residual-in_err-mark.ensures
    (end_told c.in_err-mark.field-0.0 c.read_all.new.rows.items c.read_all.new.reader c.count.result
    (g.S.Source.given c.args.source.now) (g.S.Source.given c.read_all.new.source)
    (g.S.Source.has_ended c.read_all.new.source) c.in_ok-read_all.ensures.read c.in_ok-read_all.ensures.waits
    c.in_ok-read_all.ensures.ended c.in_ok-read_all.ensures.come c.count.ensures c.in_err-mark.ensures.fault)
