use Rattle.std.proofs.Common.{◌∙◌, sym}
use Rattle.schedules.proofs.Readings.{line_read}
use Rattle.schedules.proofs.schedules.read_events.Goals as goal

-- the events of one line more were read
pub loop-line-preserved : goal.loop-line-preserved
loop-line-preserved c =
    rw c.in_ok-push_events.ensures
    (line_read c.args.count c.args.connections _ c.in-Some.line.now _ _ _ _
    (sym c.in-Some-2.is ∙ c.in_ok-said.ensures) c.in-Some.ensures.next ∙ c.loop-line.invariant)
