use Rattle.std.proofs.Common.{ap, refl}
use Rattle.rail.specs.Seats.{SeatState}
use Rattle.seats.specs.declared.submitters.SubmitterStage.TheVariants.{Lost}
use Rattle.seats.proofs.Submitted.{free_sent, lost_sent, take_answered, take_replied, take_unsent}
use Rattle.seats.proofs.submitters.Submitter.take.Goals as goal

pub returns-in_ok-reply-in-Ok-Some-clause-taken : goal.returns-in_ok-reply-in-Ok-Some-clause-taken
returns-in_ok-reply-in-Ok-Some-clause-taken g c =
    let found = rw c.in-Ok-Some.field-0-is at c.in-Ok-Some.ensures in
    let heard = c.in_ok-reply-in-Ok-Some in
    take_answered _ _ c.in-Ok-Some.told c.self.inside.stage c.hear.new.stage c.self.inside.seat
    c.reply_if_any.new.self _ c.in-Ok-Some.reply heard.reply c.self.view_is c.self.invariant heard.ensures.stage
    found.got heard.ensures.reply heard.ensures.kind heard.ensures.later heard.ensures.told found.put_out

pub returns-in_ok-reply-in-Ok-Some-clause-sent : goal.returns-in_ok-reply-in-Ok-Some-clause-sent
returns-in_ok-reply-in-Ok-Some-clause-sent g c =
    let found = rw c.in-Ok-Some.field-0-is at c.in-Ok-Some.ensures in
    take_unsent c.self.inside.stage c.hear.new.stage c.self.inside.seat c.reply_if_any.new.self _ c.self.view_is
    c.self.invariant (free_sent _ _ c.in_ok-reply-in-Ok-Some.ensures.stage)
    (ap (λ (s : SeatState). s.calls) found.got)

pub returns-in_err-reply-in-Ok-Some-clause-sent : goal.returns-in_err-reply-in-Ok-Some-clause-sent
returns-in_err-reply-in-Ok-Some-clause-sent g c =
    let found = rw c.in-Ok-Some.field-0-is at c.in-Ok-Some.ensures in
    take_unsent c.self.inside.stage c.hear.new.stage c.self.inside.seat c.reply_if_any.new.self _ c.self.view_is
    c.self.invariant (lost_sent _ _ c.in_err-reply-in-Ok-Some.ensures.stage)
    (ap (λ (s : SeatState). s.calls) found.got)

pub returns-in-Err-clause-sent : goal.returns-in-Err-clause-sent
returns-in-Err-clause-sent g c =
    take_unsent c.self.inside.stage Lost c.self.inside.seat c.reply_if_any.new.self _ c.self.view_is c.self.invariant
    refl (ap (λ (s : SeatState). s.calls) c.in-Err.ensures.got)

pub invariant_of-self-in-Ok-Some : goal.invariant_of-self-in-Ok-Some
invariant_of-self-in-Ok-Some g c =
    let found = rw c.in-Ok-Some.field-0-is at c.in-Ok-Some.ensures in
    let heard = c.in_ok-reply-in-Ok-Some in
    take_replied c.self.inside.stage c.hear.new.stage c.self.inside.seat c.reply_if_any.new.self c.in-Ok-Some.reply
    c.in-Ok-Some.told c.self.invariant heard.ensures.stage found.got heard.ensures.kind
