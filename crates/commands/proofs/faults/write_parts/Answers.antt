use Rattle.std.proofs.Common.{◌++◌}
use Rattle.std.proofs.lemmas.Result.{on_err_weaker}
use Rattle.ends.proofs.Written.{at-an-error, begun-first, begun-then, written-then}
use Rattle.commands.proofs.faults.write_parts.Goals as goal

pub returns-in_err-write_all-clause-begun : goal.returns-in_err-write_all-clause-begun
returns-in_err-write_all-clause-begun g c =
    at-an-error c.from_residual.result
    (begun-first _ _ (c.args.start.now ++ c.args.middle.now) c.args.end.now
    (begun-first _ _ c.args.start.now c.args.middle.now c.in_err-write_all.ensures.begun))

pub returns-in_err-write_all-2-clause-begun : goal.returns-in_err-write_all-2-clause-begun
returns-in_err-write_all-2-clause-begun g c =
    at-an-error c.from_residual-in_err-write_all-2.result
    (begun-first _ _ (c.args.start.now ++ c.args.middle.now) c.args.end.now
    (begun-then _ _ _ c.args.start.now c.args.middle.now c.in_ok-write_all.ensures.written
    c.in_err-write_all-2.ensures.begun))

pub returns-clause-begun : goal.returns-clause-begun
returns-clause-begun g c =
    let both = written-then _ _ _ c.args.start.now c.args.middle.now c.in_ok-write_all.ensures.written
    c.in_ok-write_all-2.ensures.written in
    on_err_weaker c.write_all-3.result
    (λ begun. begun-then _ _ _ (c.args.start.now ++ c.args.middle.now) c.args.end.now both begun)
    c.write_all-3.ensures.begun
