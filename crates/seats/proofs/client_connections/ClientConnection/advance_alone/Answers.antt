use Rattle.std.proofs.Common.{◌∙◌, ap, refl, sym}
use Rattle.seats.specs.ClientConnections.{ClientConnectionState}
use Rattle.seats.proofs.Looked.{gone_sent, looked_on, looked_same}
use Rattle.seats.proofs.ClientConnectionLaws.{further_as, further_same}
use Rattle.seats.proofs.SentInTurn.{sent_still}
use Rattle.seats.proofs.client_connections.ClientConnection.advance_alone.Goals as goal

pub returns-in-Reading-clause-further : goal.returns-in-Reading-clause-further
returns-in-Reading-clause-further g c = further_same _

pub returns-else-is_refused-clause-further : goal.returns-else-is_refused-clause-further
returns-else-is_refused-clause-further g c =
    further_as _ _ (ap (λ (t : ClientConnectionState). t.connected) c.send.ensures.same)

pub returns-in-Sent-clause-further : goal.returns-in-Sent-clause-further
returns-in-Sent-clause-further g c = further_same _

pub returns-in-Sent-clause-went : goal.returns-in-Sent-clause-went
returns-in-Sent-clause-went g c =
    (c.in-Sent.field-0, ap (λ (t : ClientConnectionState). t.standing) (sym c.self.view_is) ∙ c.in-Sent.is)

pub returns-in-Over-clause-further : goal.returns-in-Over-clause-further
returns-in-Over-clause-further g c = further_same _

pub returns-in-Reading-clause-looked : goal.returns-in-Reading-clause-looked
returns-in-Reading-clause-looked g c = looked_same _ _ _ refl refl

pub returns-else-is_refused-clause-looked : goal.returns-else-is_refused-clause-looked
returns-else-is_refused-clause-looked g c =
    let t = c.args.self.now in
    let p = c.args.pool.now in
    gone_sent c.send.result t.connected t.connected c.send.new.self.connected p p c.send.new.pool c.send.ensures.waits
    (looked_on t.connected t.connected p p (looked_same t.connected t.connected p refl refl))
    (ap (λ (x : ClientConnectionState). x.connected) c.send.ensures.same) c.send.ensures.pool.1

pub returns-in-Sent-clause-looked : goal.returns-in-Sent-clause-looked
returns-in-Sent-clause-looked g c = looked_on _ _ _ _ (looked_same _ _ _ refl refl)

pub returns-in-Over-clause-looked : goal.returns-in-Over-clause-looked
returns-in-Over-clause-looked g c = looked_on _ _ _ _ (looked_same _ _ _ refl refl)

pub returns-in-Sent-clause-sent : goal.returns-in-Sent-clause-sent
returns-in-Sent-clause-sent g c =
    let s = c.self.inside in
    sent_still s.standing s.ahead.items s.connection s.seen.instance c.args.self.now c.args.pool.now
    (ap (λ (t : ClientConnectionState). t.standing) (sym c.self.view_is))
    (ap (λ (t : ClientConnectionState). t.connected) (sym c.self.view_is)) c.self.invariant.stands

pub returns-in-Reading-clause-sent : goal.returns-in-Reading-clause-sent
returns-in-Reading-clause-sent g c =
    let s = c.self.inside in
    sent_still s.standing s.ahead.items s.connection s.seen.instance c.args.self.now c.args.pool.now
    (ap (λ (t : ClientConnectionState). t.standing) (sym c.self.view_is))
    (ap (λ (t : ClientConnectionState). t.connected) (sym c.self.view_is)) c.self.invariant.stands

pub returns-in-Over-clause-sent : goal.returns-in-Over-clause-sent
returns-in-Over-clause-sent g c =
    let s = c.self.inside in
    sent_still s.standing s.ahead.items s.connection s.seen.instance c.args.self.now c.args.pool.now
    (ap (λ (t : ClientConnectionState). t.standing) (sym c.self.view_is))
    (ap (λ (t : ClientConnectionState). t.connected) (sym c.self.view_is)) c.self.invariant.stands
