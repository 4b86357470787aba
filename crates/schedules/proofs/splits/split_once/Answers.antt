use Rattle.std.proofs.Common.{sym, None, Some, add-one}
use Rattle.std.proofs.lemmas.List.{take_rest}
use Rattle.schedules.proofs.SplitPlaces.{split_from_first}
use Rattle.schedules.proofs.splits.split_once.Goals as goal

-- if there is no such byte, nothing is split
pub returns-in_err-at-clause-parts : goal.returns-in_err-at-clause-parts
returns-in_err-at-clause-parts c =
    rw c.from_residual.ensures (sym (split_from_first c.args.byte c.args.bytes.now None c.in_err-at.ensures))

-- what stands before the first such byte, and what stands after it, is what is split
pub returns-clause-parts : goal.returns-clause-parts
returns-clause-parts c =
    rw (take_rest, add-one)
    (sym (split_from_first c.args.byte c.args.bytes.now (Some c.in_ok-at.at) c.in_ok-at.ensures))
