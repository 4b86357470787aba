use Rattle.std.proofs.Common.{◌∙◌, ◌++◌, ◌∷◌, [], Some, ap, subst}
use Rattle.faces.specs.Histories.{History}
use Rattle.rail.specs.CallSenders.{CallSenderState, with_call}
use Rattle.seats.specs.ClientConnections.{IsOpenAt}
use Rattle.seats.proofs.ahead.open_ahead.Goals as goal

pub returns-in_ok-submitter-in-Ok-Some-clause-ok : goal.returns-in_ok-submitter-in-Ok-Some-clause-ok
returns-in_ok-submitter-in-Ok-Some-clause-ok g c =
    let asked = rw c.in-Ok-Some.field-0-is at c.in-Ok-Some.ensures.ok in
    record {
      call = c.in-Ok-Some.call;
      s = c.in_ok-submitter-in-Ok-Some.submitter;
      waits = asked.is;
      seats = c.push_back_reserved.ensures.items ∙ ap (λ ss. ss ++ c.in_ok-submitter-in-Ok-Some.submitter ∷ [])
          c.reserve.ensures.items;
      opened = subst (λ (h : History). IsOpenAt h.instance c.in_ok-submitter-in-Ok-Some.submitter c.in-Ok-Some.call)
          c.take_free.ensures.reader.0 c.in_ok-submitter-in-Ok-Some.ensures.opened;
      waiting = c.in_ok-submitter-in-Ok-Some.ensures.waiting
          ∙ ap (λ (x : CallSenderState). Some (record { sender = x; call = c.in-Ok-Some.call }))
          c.take_free.ensures.unsent;
      sent = c.in_ok-submitter-in-Ok-Some.ensures.sent
          ∙ ap (λ (x : CallSenderState). with_call x c.in_ok-submitter-in-Ok-Some.submitter.seat.port c.in-Ok-Some.call)
          c.take_free.ensures.unsent;
    }
