use Rattle.std.proofs.Common.{◌∙◌, All, ap, sym, subst}
use Rattle.faces.specs.Histories.{Instance}
use Rattle.seats.specs.ClientConnections.{ClientConnectionState}
use Rattle.seats.specs.SeatPools.{IsAt}
use Rattle.seats.proofs.ClientConnectionLaws.{seats_here}
use Rattle.seats.proofs.client_connections.ClientConnection.leave.Goals as goal

pub leave_all-requires : goal.leave_all-requires
leave_all-requires c =
    let s = c.self.inside in
    subst (λ (o : Instance). All (IsAt o) s.ahead.items)
    (sym (ap (λ h. h.instance) c.leave_one.ensures.reader.0 ∙ (c.requires.known.instance
    ∙ ap (λ (t : ClientConnectionState). t.seen.instance) (sym c.self.view_is))))
    (seats_here s.standing s.ahead.items s.connection s.seen.instance c.self.invariant.stands).1
