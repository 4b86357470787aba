use Rattle.std.proofs.Common.{◌++◌, codes, decimal}
use Rattle.std.proofs.lemmas.Result.{on_err_weaker}
use Rattle.ends.proofs.Written.{at-an-error, begun-first, begun-then}
use Rattle.lines.proofs.written_lines.write_count.Goals as goal

pub returns-in_err-write_all-clause-begun : goal.returns-in_err-write_all-clause-begun
returns-in_err-write_all-clause-begun g c =
    at-an-error c.from_residual.result
    (begun-first _ _ (codes "craq: ") (decimal c.args.dropped ++ codes " lines were dropped\n")
    c.in_err-write_all.ensures.begun)

pub returns-in_err-write_number-clause-begun : goal.returns-in_err-write_number-clause-begun
returns-in_err-write_number-clause-begun g c =
    at-an-error c.from_residual-in_err-write_number.result
    (begun-then _ _ _ (codes "craq: ") (decimal c.args.dropped ++ codes " lines were dropped\n")
    c.in_ok-write_all.ensures.written
    (begun-first _ _ (decimal c.args.dropped) (codes " lines were dropped\n") c.in_err-write_number.ensures.begun))

pub returns-clause-begun : goal.returns-clause-begun
returns-clause-begun g c =
    on_err_weaker c.write_all-2.result
    (λ begun. begun-then _ _ _ (codes "craq: ") (decimal c.args.dropped ++ codes " lines were dropped\n")
    c.in_ok-write_all.ensures.written
    (begun-then _ _ _ (decimal c.args.dropped) (codes " lines were dropped\n")
    c.in_ok-write_number.ensures.written begun))
    c.write_all-2.ensures.begun
