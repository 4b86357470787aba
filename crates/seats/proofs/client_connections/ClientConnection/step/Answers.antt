use Rattle.std.proofs.Common.{◌∙◌, List, ap, arith, length, refl}
use Rattle.table.specs.declared.operations.Call.{Call}
use Rattle.seats.specs.ClientConnections.{ClientConnectionState}
use Rattle.seats.proofs.Looked.{asked_looked, asked_same, looked_on}
use Rattle.seats.proofs.ClientConnectionLaws.{as_shown, asked_further, asked_client_connection, further_view}
use Rattle.seats.proofs.ClientConnectionLaws.{none_if_idle as no_seat_if_idle}
use Rattle.seats.proofs.SentInTurn.{asked_rests, asked_sent, idle_sent, none_if_idle, over_sent, reading_sent}
use Rattle.seats.proofs.client_connections.ClientConnection.step.Goals as goal

pub invariant_of-self : goal.invariant_of-self
invariant_of-self c =
    let s = c.self.inside in
    let found = rw c.in-Ok-Call.field-0-is at c.in-Ok-Call.ensures in
    asked_client_connection c.ask.result s.connection c.next.new.self c.ask.new.connection c.ask.new.standing s.first
    s.seen
    c.ask.new.seen c.in-Ok-Call.target c.in-Ok-Call.op c.next.ensures.looked found.wanted.0 c.ask.ensures.ok
    c.ask.ensures.err s.ahead.items s.heard.all
    (no_seat_if_idle s.standing s.ahead.items s.connection s.seen.instance c.self.invariant.stands
    (ap (λ (t : ClientConnectionState). t.standing) c.self.view_is ∙ c.requires.idle)) c.self.invariant.answered

pub returns-in-Ok-Call-clause-further : goal.returns-in-Ok-Call-clause-further
returns-in-Ok-Call-clause-further c =
    let s = c.self.inside in
    let found = rw c.in-Ok-Call.field-0-is at c.in-Ok-Call.ensures in
    as_shown c.args.self.now s.connection c.ask.new.connection
    (ap (λ (t : ClientConnectionState). t.connected) c.self.view_is)
    (asked_further c.ask.result s.connection c.next.new.self c.ask.new.connection c.ask.new.standing s.first s.seen
    c.ask.new.seen c.in-Ok-Call.target c.in-Ok-Call.op c.next.ensures.looked found.wanted.0 c.ask.ensures.ok
    c.ask.ensures.err)

pub returns-in-Ok-Write-clause-further : goal.returns-in-Ok-Write-clause-further
returns-in-Ok-Write-clause-further c =
    further_view _ _ c.args.self.now (ap (λ (t : ClientConnectionState). t.connected) c.self.view_is)
    c.next.ensures.looked

pub returns-in-Ok-Read-clause-further : goal.returns-in-Ok-Read-clause-further
returns-in-Ok-Read-clause-further c =
    further_view _ _ c.args.self.now (ap (λ (t : ClientConnectionState). t.connected) c.self.view_is)
    c.next.ensures.looked

pub returns-in-Ok-End-clause-further : goal.returns-in-Ok-End-clause-further
returns-in-Ok-End-clause-further c =
    further_view _ _ c.args.self.now (ap (λ (t : ClientConnectionState). t.connected) c.self.view_is)
    c.next.ensures.looked

pub returns-in-Err-clause-further : goal.returns-in-Err-clause-further
returns-in-Err-clause-further c =
    further_view _ _ c.args.self.now (ap (λ (t : ClientConnectionState). t.connected) c.self.view_is)
    c.next.ensures.looked

pub returns-in-Ok-Call-clause-looked : goal.returns-in-Ok-Call-clause-looked
returns-in-Ok-Call-clause-looked c =
    let found = rw c.in-Ok-Call.field-0-is at c.in-Ok-Call.ensures in
    asked_looked c.args.self.now.connected c.self.inside.connection c.next.new.self c.ask.new.connection
    (record { target = c.in-Ok-Call.target; op = c.in-Ok-Call.op }) c.args.pool.now c.ask.new.pool
    (ap (λ (t : ClientConnectionState). t.connected) c.self.view_is) c.next.ensures.looked found.wanted.0.waiting
    c.ask.ensures.once _ _ c.ask.result c.ask.ensures.looked c.ask.ensures.err

pub returns-in-Ok-Write-clause-looked : goal.returns-in-Ok-Write-clause-looked
returns-in-Ok-Write-clause-looked c =
    asked_same _ _ _ _ (ap (λ (t : ClientConnectionState). t.connected) c.self.view_is) c.next.ensures.looked

pub returns-in-Ok-Read-clause-looked : goal.returns-in-Ok-Read-clause-looked
returns-in-Ok-Read-clause-looked c =
    asked_same _ _ _ _ (ap (λ (t : ClientConnectionState). t.connected) c.self.view_is) c.next.ensures.looked

pub returns-in-Ok-End-clause-looked : goal.returns-in-Ok-End-clause-looked
returns-in-Ok-End-clause-looked c =
    asked_same _ _ _ _ (ap (λ (t : ClientConnectionState). t.connected) c.self.view_is) c.next.ensures.looked

pub returns-in-Err-clause-looked : goal.returns-in-Err-clause-looked
returns-in-Err-clause-looked c =
    looked_on _ _ _ _ (asked_same _ _ _ _ (ap (λ (t : ClientConnectionState). t.connected) c.self.view_is)
    c.next.ensures.looked)

pub returns-in-Ok-Call-clause-sent : goal.returns-in-Ok-Call-clause-sent
returns-in-Ok-Call-clause-sent c =
    let s = c.self.inside in
    let found = rw c.in-Ok-Call.field-0-is at c.in-Ok-Call.ensures in
    asked_sent c.ask.result c.next.new.self c.ask.new.connection c.ask.new.standing s.seen c.ask.new.seen
    (record { target = c.in-Ok-Call.target; op = c.in-Ok-Call.op }) found.wanted.0.waiting c.ask.ensures.ok
    c.ask.ensures.err c.args.self.now _ c.args.pool.now c.ask.new.pool
    (none_if_idle c.args.self.now c.requires.idle) c.ask.ensures.unsent refl refl

pub returns-in-Ok-Call-clause-rests : goal.returns-in-Ok-Call-clause-rests
returns-in-Ok-Call-clause-rests c =
    let s = c.self.inside in
    let found = rw c.in-Ok-Call.field-0-is at c.in-Ok-Call.ensures in
    asked_rests c.ask.result c.next.new.self c.ask.new.connection c.ask.new.standing s.seen c.ask.new.seen
    (record { target = c.in-Ok-Call.target; op = c.in-Ok-Call.op }) found.wanted.0.waiting c.ask.ensures.ok
    c.ask.ensures.err

pub returns-in-Ok-Write-clause-sent : goal.returns-in-Ok-Write-clause-sent
returns-in-Ok-Write-clause-sent c =
    let found = rw c.in-Ok-Write.field-0-is at c.in-Ok-Write.ensures in
    idle_sent c.args.self.now _ c.args.pool.now c.args.pool.now (none_if_idle c.args.self.now c.requires.idle) refl
    (ap (λ (t : ClientConnectionState). t.standing) c.self.view_is ∙ c.requires.idle) found.wanted.0

pub returns-in-Ok-Read-clause-sent : goal.returns-in-Ok-Read-clause-sent
returns-in-Ok-Read-clause-sent c =
    let found = rw c.in-Ok-Read.field-0-is at c.in-Ok-Read.ensures in
    reading_sent c.args.self.now _ c.args.pool.now c.args.pool.now (none_if_idle c.args.self.now c.requires.idle) refl
    c.stand_reading.ensures found.wanted.0.waiting

pub returns-in-Ok-End-clause-sent : goal.returns-in-Ok-End-clause-sent
returns-in-Ok-End-clause-sent c =
    let found = rw c.in-Ok-End.field-0-is at c.in-Ok-End.ensures in
    idle_sent c.args.self.now _ c.args.pool.now c.args.pool.now (none_if_idle c.args.self.now c.requires.idle) refl
    (ap (λ (t : ClientConnectionState). t.standing) c.self.view_is ∙ c.requires.idle) found.wanted.0.waiting

pub returns-in-Err-clause-sent : goal.returns-in-Err-clause-sent
returns-in-Err-clause-sent c =
    over_sent c.args.self.now _ c.args.pool.now c.args.pool.now (none_if_idle c.args.self.now c.requires.idle) refl
    c.stand_at.ensures (omega (arith, ap (λ (cs : List Call). length cs) c.in-Err.ensures.idle))
