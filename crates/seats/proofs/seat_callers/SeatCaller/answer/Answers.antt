use Rattle.std.proofs.Common.{ap, subst}
use Rattle.faces.specs.Histories.{IsLater}
use Rattle.seats.specs.SeatCallers.{SeatCalling}
use Rattle.seats.proofs.SeatCalled.{asked_then}
use Rattle.seats.proofs.seat_callers.SeatCaller.answer.Goals as goal

pub returns-in-None-clause-answered : goal.returns-in-None-clause-answered
returns-in-None-clause-answered g c =
    let inside = c.self.inside in
    let looked : SeatCalling = record {
      seen = c.peek-found.new.reader.seen;
      seat = inside.seat;
      sender = inside.call_sender;
      lost = inside.lost;
      failures = inside.failures;
    } in
    asked_then c.ask.result c.args.self.now looked c.ask.new.self c.args.call
    (ap (λ (x : SeatCalling). x.seat) c.self.view_is) (ap (λ (x : SeatCalling). x.sender) c.self.view_is)
    (ap (λ (x : SeatCalling). x.lost) c.self.view_is)
    (subst (λ seen. IsLater seen looked.seen) (ap (λ (x : SeatCalling). x.seen) c.self.view_is)
    c.in-None.ensures.later) c.ask.ensures.exchanged
