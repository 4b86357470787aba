use Rattle.std.proofs.Common.{All, sym, subst}
use Rattle.std.proofs.lemmas.List.Elements.{All-tail}
use Rattle.faces.specs.Histories.{History}
use Rattle.seats.specs.SeatPools.{IsAt}
use Rattle.seats.proofs.ahead.leave_next.Goals as goal

pub returns-in-Some-clause-here : goal.returns-in-Some-clause-here
returns-in-Some-clause-here c =
    subst (λ (h : History). All (IsAt h.instance) c.pop_front.new.self.items) (sym c.leave.ensures.reader.0)
    (All-tail (IsAt c.args.pool.now.seen.instance) c.in-Some.submitter c.pop_front.new.self.items
    (subst (All (IsAt c.args.pool.now.seen.instance)) c.in-Some.ensures.items c.requires))
