use Rattle.std.proofs.Common.{◌∙◌, sym, arith, ◌<◌, ◌^◌, length}
use Rattle.std.proofs.lemmas.Bool.Decides.{nat_tests}
use Rattle.table.proofs.Digits.{number_from_front, read_on-stop, read_on-end}
use Rattle.table.proofs.numbers.number.Goals as goal

pub returns-in_err-value : goal.returns-in_err-value
returns-in_err-value c =
    let field = c.args.bytes.now in
    let some : 0 < length c.args.bytes.now = grind (arith, nat_tests, c.is_empty.ensures, c.if-is_empty.false) in
    c.from_residual.ensures
    ∙ (sym (read_on-stop (2 ^ 64) c.loop-b.value field c.loop-b.b-index (omega arith) (sym c.in_err-value.ensures))
    ∙ c.loop-b.invariant ∙ number_from_front (2 ^ 64) field some (omega arith))

pub returns : goal.returns
returns c =
    let field = c.args.bytes.now in
    let some : 0 < length c.args.bytes.now = grind (arith, nat_tests, c.is_empty.ensures, c.if-is_empty.false) in
    sym (read_on-end (2 ^ 64) c.loop-b.value field c.loop-b.b-index (omega arith)) ∙ c.loop-b.invariant
    ∙ number_from_front (2 ^ 64) field some (omega arith)
