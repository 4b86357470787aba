use Rattle.std.proofs.Common.{◌∙◌, List, ap, refl, sym, subst}
use Rattle.seats.specs.ClientConnections.{ClientConnectionState, IsClientConnection}
use Rattle.seats.specs.declared.client_connections.CallStanding.TheVariants.{Over}
use Rattle.seats.specs.Submitters.{Submitting}
use Rattle.seats.proofs.ClientConnectionLaws.{maybe_ahead, over_client_connection}
use Rattle.seats.proofs.SentInTurn.{lost_ahead, sent_ahead}
use Rattle.seats.proofs.client_connections.ClientConnection.send_ahead.Goals as goal

pub invariant_of-self : goal.invariant_of-self
invariant_of-self g c =
    let s = c.self.inside in
    maybe_ahead c.in-Ok.sent s.connection c.open_ahead.new.connection s.standing s.ahead.items
    c.open_ahead.new.ahead.items s.heard.all s.first s.seen c.args.pool.now c.open_ahead.new.pool c.requires.sent.0 c.self.invariant
    (ap (λ (t : ClientConnectionState). t.standing) c.self.view_is ∙ c.requires.sent.1)
    (c.requires.known.instance ∙ ap (λ (t : ClientConnectionState). t.seen.instance) (sym c.self.view_is))
    c.in-Ok.ensures.ok

pub invariant_of-self-in-Err : goal.invariant_of-self-in-Err
invariant_of-self-in-Err g c =
    let s = c.self.inside in
    subst (λ x. IsClientConnection c.open_ahead.new.connection x c.open_ahead.new.ahead.items s.heard.all s.first
    s.seen)
    (sym c.replace.ensures.after)
    (subst (λ (a : List Submitting). IsClientConnection c.open_ahead.new.connection Over a s.heard.all s.first
    s.seen)
    (sym c.in-Err.ensures.err.1)
    (over_client_connection s.connection c.open_ahead.new.connection s.standing s.ahead.items s.heard.all s.first
    s.seen c.self.invariant (ap (λ x. x.calls) c.in-Err.ensures.err.0.1)
    (ap (λ x. x.outcomes) c.in-Err.ensures.err.0.1)))

pub returns-in-Ok-clause-sent : goal.returns-in-Ok-clause-sent
returns-in-Ok-clause-sent g c = (
  c.requires.sent.0,
  ap (λ (t : ClientConnectionState). t.standing) c.self.view_is ∙ c.requires.sent.1,
)

pub returns-in-Ok-clause-on : goal.returns-in-Ok-clause-on
returns-in-Ok-clause-on g c =
    let s = c.self.inside in
    sent_ahead c.in-Ok.sent c.args.self.now _ s.connection c.open_ahead.new.connection s.ahead.items
    c.open_ahead.new.ahead.items c.args.pool.now c.open_ahead.new.pool c.requires.sent.0 c.requires.sent.1
    (ap (λ (t : ClientConnectionState). t.standing) c.self.view_is)
    (ap (λ (t : ClientConnectionState). t.connected) (sym c.self.view_is)) refl
    (ap (λ (t : ClientConnectionState). t.ahead) (sym c.self.view_is)) refl c.in-Ok.ensures.ok

pub returns-in-Err-clause-on : goal.returns-in-Err-clause-on
returns-in-Err-clause-on g c =
    lost_ahead c.args.self.now _ c.self.inside.connection c.open_ahead.new.connection c.args.pool.now
    c.leave_one.new.pool c.requires.sent.0 c.requires.sent.1 c.replace.ensures.after
    (ap (λ (t : ClientConnectionState). t.connected) (sym c.self.view_is)) refl c.in-Err.ensures.err.0
    (c.leave_one.ensures.unsent ∙ c.in-Err.ensures.err.2)
