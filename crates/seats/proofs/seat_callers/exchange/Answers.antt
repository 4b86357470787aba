use Rattle.seats.proofs.SeatCalled.{exchanged_now}
use Rattle.seats.proofs.seat_callers.exchange.Goals as goal

pub returns-clause-exchanged : goal.returns-clause-exchanged
returns-clause-exchanged g c =
    let got = c.in_ok-reply.ensures.got in
    exchanged_now _ _ got.0 c.args.seat.now c.submit.new.seat c.heard.new.seat c.args.call_sender.now c.submit.new.self
    c.args.call c.in_ok-reply.reply c.requires.replied c.requires.server c.in-Ok.ensures.sender
    c.in-Ok.ensures.seat got.1 c.in_ok-reply.ensures.later got.2 got.3
