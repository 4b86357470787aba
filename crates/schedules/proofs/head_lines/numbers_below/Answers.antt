use Rattle.schedules.proofs.FieldNumbers.{one_more, no_number, none_left}
use Rattle.schedules.proofs.head_lines.numbers_below.Goals as goal

-- one field more is a number
pub loop-field-preserved : goal.loop-field-preserved
loop-field-preserved c =
    one_more _ c.args.high c.loop-field.field-index c.args.fields.now c.loop-field.numbers.items _ _ _ _
    c.loop-field-test.true c.in-Some.ensures c.in_ok-push-in-Some.ensures.items c.loop-field.invariant

-- a field that isn't a number leaves none
pub returns-in-None : goal.returns-in-None
returns-in-None c =
    no_number _ c.args.high c.loop-field.field-index c.args.fields.now c.loop-field.numbers.items _ _
    c.loop-field-test.true c.in-None.ensures c.loop-field.invariant

-- with no field left, all numbers are read
pub returns : goal.returns
returns c =
    none_left _ c.args.high c.loop-field.field-index c.args.fields.now c.loop-field.numbers.items _
    c.loop-field-test.false c.loop-field.invariant
