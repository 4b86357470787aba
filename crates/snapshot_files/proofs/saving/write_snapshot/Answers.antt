use Rattle.ends.proofs.Written.{at-an-error}
use Rattle.snapshot_files.proofs.Saves.{begun_end, begun_held, begun_rows, snapshot_written}
use Rattle.snapshot_files.proofs.saving.write_snapshot.Goals as goal

pub returns-in_err-gone-clause-begun : goal.returns-in_err-gone-clause-begun
returns-in_err-gone-clause-begun g c =
    at-an-error _ (begun_rows _ _ c.args.rows.now c.args.count c.in_err-gone.ensures.begun)

pub returns-in_err-mark-clause-begun : goal.returns-in_err-mark-clause-begun
returns-in_err-mark-clause-begun g c =
    at-an-error _
    (begun_held _ _ _ c.args.rows.now _ c.args.count _ c.in_ok-gone.ensures.way c.in_ok-gone.ensures.passed)

pub returns-in_err-bytes-clause-begun : goal.returns-in_err-bytes-clause-begun
returns-in_err-bytes-clause-begun g c =
    at-an-error _ (begun_end _ _ _ _ _ c.args.rows.now _ c.args.count _ c.in_ok-gone.ensures.way
    c.in_ok-gone.ensures.passed c.in_ok-mark.ensures.written c.in_err-bytes.ensures.begun)

pub returns-clause-written : goal.returns-clause-written
returns-clause-written g c =
    snapshot_written _ _ _ _ _ c.args.rows.now _ c.args.count _ _ c.in_ok-gone.ensures.way
    c.in_ok-gone.ensures.passed c.in_ok-mark.ensures.written c.in_ok-bytes.ensures.written c.in_ok-bytes.ensures.gone
