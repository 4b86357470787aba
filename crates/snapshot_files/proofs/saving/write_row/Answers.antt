use Rattle.std.proofs.Common.{◌+◌}
use Rattle.ends.specs.Ends.{WritesBeginning}
use Rattle.ends.proofs.Written.{at-an-error}
use Rattle.snapshot_files.proofs.Saves.{after_error, at_an_ok, row_passed, way_broken, way_row, way_stopped}
use Rattle.snapshot_files.proofs.saving.write_row.Goals as goal

pub returns-in_err-put_row-clause-begun : goal.returns-in_err-put_row-clause-begun
returns-in_err-put_row-clause-begun g c =
    λ before way. at-an-error _
    (way_stopped before _ _ c.args.place c.args.rows.now _ c.args.gone c.requires.passed way)

pub returns-clause-passed : goal.returns-clause-passed
returns-clause-passed g c =
    at_an_ok _ (row_passed c.args.place c.args.rows.now _ _ _ c.row_at.ensures.first c.requires.passed
    c.in_ok-put_row.ensures.row c.in_ok-put_row.ensures.rises c.in_ok-put_row.ensures.put)

pub returns-clause-begun : goal.returns-clause-begun
returns-clause-begun g c =
    let passed =
    row_passed c.args.place c.args.rows.now _ c.args.writer.now c.put_row.new.writer c.row_at.ensures.first
    c.requires.passed c.in_ok-put_row.ensures.row c.in_ok-put_row.ensures.rises c.in_ok-put_row.ensures.put in
    λ before way. after_error c.hand_on.result
    (λ (w : WritesBeginning before (g.W.Sink.written c.hand_on.new.sink) c.put_row.new.writer.bytes).
    way_broken before (g.W.Sink.written c.hand_on.new.sink) (c.args.place + 1) c.args.rows.now
    c.put_row.new.writer passed w)
    (c.hand_on.ensures.begun before c.put_row.new.writer.bytes
    (way_row before (g.W.Sink.written c.args.sink.now) c.args.out.now.items c.put_row.new.out.items c.args.writer.now
    c.put_row.new.writer _ c.args.gone c.in_ok-put_row.ensures.put c.in_ok-put_row.ensures.written way))
