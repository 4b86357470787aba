use Rattle.std.proofs.Common.{◌∙◌, List, ap, arith, length, sym, subst}
use Rattle.table.specs.declared.operations.Call.{Call}
use Rattle.seats.specs.ClientConnections.{ClientConnectionState, StandsAt}
use Rattle.seats.specs.declared.client_connections.CallStanding.{CallStanding}
use Rattle.seats.specs.Submitters.{Submitting}
use Rattle.seats.proofs.ClientConnectionLaws.{sent_client_connection}
use Rattle.seats.proofs.SentInTurn.{none_if_unsent, over_sent, sent_from, sent_one, sent_still}
use Rattle.seats.specs.SeatPools.{Pooling}
use Rattle.seats.proofs.client_connections.ClientConnection.send.Goals as goal

pub returns-in-Ok-clause-went : goal.returns-in-Ok-clause-went
returns-in-Ok-clause-went g c = (c.submit.new.submitter, c.stand_at.ensures)

pub invariant_of-self : goal.invariant_of-self
invariant_of-self g c =
    let s = c.self.inside in
    let here = ap (λ (t : ClientConnectionState). t.seen.instance) c.self.view_is in
    sent_client_connection s.connection s.standing c.stand_at.new.standing s.ahead.items s.heard.all s.first
    s.seen
    c.submit.new.submitter
    (record { sender = c.take_free.new.self.sender; call = c.unsent-call.result })
    c.self.invariant (sym c.replace.ensures.value ∙ c.unsent-call.ensures) c.stand_at.ensures
    (ap (λ (x : Submitting). x.waiting) c.in-Ok.ensures.waits)
    (ap (λ (x : Submitting). x.seat.instance) c.in-Ok.ensures.waits
    ∙ (c.in-Some.ensures.free.0 ∙ (c.requires.known.instance ∙ sym here)))

pub returns-in-Ok-clause-sent : goal.returns-in-Ok-clause-sent
returns-in-Ok-clause-sent g c =
    let s = c.self.inside in
    let stood = subst (λ (x : CallStanding). StandsAt x s.ahead.items s.connection s.seen.instance)
    (sym c.replace.ensures.value ∙ c.unsent-call.ensures) c.self.invariant.stands in
    sent_one c.args.self.now _ c.args.pool.now c.take_free.new.self c.submit.new.self c.in-Some.submitter
    c.submit.new.submitter c.unsent-call.result
    (none_if_unsent c.args.self.now c.requires.unsent.0 c.requires.unsent.1) c.take_free.ensures.unsent
    c.stand_at.ensures stood.2 stood.0 c.in-Ok.ensures.waits c.in-Ok.ensures.sent

pub returns-in-Err-clause-sent : goal.returns-in-Err-clause-sent
returns-in-Err-clause-sent g c =
    let s = c.self.inside in
    let stood = subst (λ (x : CallStanding). StandsAt x s.ahead.items s.connection s.seen.instance)
    (sym c.replace.ensures.value ∙ c.unsent-call.ensures) c.self.invariant.stands in
    over_sent c.args.self.now _ c.args.pool.now c.put.new.self
    (none_if_unsent c.args.self.now c.requires.unsent.0 c.requires.unsent.1)
    (c.put.ensures.unsent ∙ (ap (λ (p : Pooling). p.sender) c.in-Err.ensures.err.1 ∙ c.take_free.ensures.unsent))
    c.replace.ensures.after (omega (arith, ap (λ (cs : List Call). length cs) stood.0))

pub returns-in_default-clause-sent : goal.returns-in_default-clause-sent
returns-in_default-clause-sent g c =
    let s = c.self.inside in
    sent_from c.args.self.now c.args.self.now c.args.self.now c.args.pool.now c.take_free.new.self c.take_free.new.self
    (none_if_unsent c.args.self.now c.requires.unsent.0 c.requires.unsent.1)
    (none_if_unsent c.args.self.now c.requires.unsent.0 c.requires.unsent.1) c.take_free.ensures.unsent
    (sent_still s.standing s.ahead.items s.connection s.seen.instance c.args.self.now c.take_free.new.self
    (ap (λ (t : ClientConnectionState). t.standing) (sym c.self.view_is))
    (ap (λ (t : ClientConnectionState). t.connected) (sym c.self.view_is)) c.self.invariant.stands)
