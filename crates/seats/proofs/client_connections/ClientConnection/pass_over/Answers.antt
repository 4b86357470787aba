use Rattle.std.proofs.Common.{◌∙◌, List, ap, arith, length, refl, rules, subst, sym, true}
use Rattle.table.specs.declared.operations.Call.{Call}
use Rattle.serving.specs.Connections.{Connected}
use Rattle.std.proofs.lemmas.Result.{MatchResult-from_err}
use Rattle.seats.specs.ClientConnections.{HoldsStore, ClientConnectionState, StandsAt}
use Rattle.seats.specs.declared.client_connections.CallStanding.{CallStanding}
use Rattle.seats.proofs.SentInTurn.{none_if_idle, none_if_unsent, over_sent, sent_from}
use Rattle.seats.proofs.Looked.{failed_same, refused_then}
use Rattle.seats.proofs.ClientConnectionLaws.{as_shown, further_failed, refused_client_connection}
use Rattle.seats.proofs.client_connections.ClientConnection.pass_over.Goals as goal

pub returns-in_err-refuse-clause-further : goal.returns-in_err-refuse-clause-further
returns-in_err-refuse-clause-further g c =
    as_shown c.args.self.now c.self.inside.connection c.refuse.new.connection
    (ap (λ (t : ClientConnectionState). t.connected) c.self.view_is)
    (further_failed c.self.inside.connection c.refuse.new.connection true
    c.in_err-refuse.ensures.err.1)

pub returns-in_err-refuse-clause-looked : goal.returns-in_err-refuse-clause-looked
returns-in_err-refuse-clause-looked g c =
    MatchResult-from_err c.from_residual.result _ _ (search rules)
    (λ e. failed_same c.args.self.now.connected c.self.inside.connection c.refuse.new.connection
    true c.args.pool.now (ap (λ (t : ClientConnectionState). t.connected) c.self.view_is)
    c.in_err-refuse.ensures.err.1)

pub invariant_of-self-2 : goal.invariant_of-self-2
invariant_of-self-2 g c =
    let s = c.self.inside in
    refused_client_connection s.connection c.refuse.new.connection s.standing c.refuse.new.standing s.ahead.items
    s.heard.all s.first s.seen
    c.self.invariant
    (subst (λ (t : ClientConnectionState). HoldsStore t.standing) (sym c.self.view_is) c.requires.store)
    c.in_ok-refuse.ensures.ok.0
    c.in_ok-refuse.ensures.ok.1

pub returns-clause-looked : goal.returns-clause-looked
returns-clause-looked g c =
    refused_then c.make_calls.result c.args.self.now.connected c.self.inside.connection c.refuse.new.connection _ _ _
    (ap (λ (t : ClientConnectionState). t.connected) c.self.view_is) c.requires.limit c.in_ok-refuse.ensures.ok.0
    c.make_calls.ensures.looked

pub returns-in_err-refuse-clause-sent : goal.returns-in_err-refuse-clause-sent
returns-in_err-refuse-clause-sent g c =
    let s = c.self.inside in
    let asked = c.requires.store in
    let stood = subst (λ (x : CallStanding). StandsAt x s.ahead.items s.connection s.seen.instance)
    (ap (λ (t : ClientConnectionState). t.standing) c.self.view_is ∙ asked.1) c.self.invariant.stands in
    over_sent c.args.self.now _ c.args.pool.now c.args.pool.now (none_if_unsent c.args.self.now asked.0 asked.1) refl
    c.in_err-refuse.ensures.err.0
    (omega (
      arith,
      ap (λ (x : Connected). length x.waiting) c.in_err-refuse.ensures.err.1,
      ap (λ (cs : List Call). length cs) stood.0,
    ))

pub returns-clause-sent : goal.returns-clause-sent
returns-clause-sent g c =
    let s = c.self.inside in
    let t : ClientConnectionState = record {
      connected = c.refuse.new.connection;
      standing = c.refuse.new.standing;
      ahead = s.ahead.items;
      heard = s.heard.all;
      first = s.first;
      seen = s.seen;
    } in
    sent_from c.args.self.now t c.make_calls.new.self c.args.pool.now c.args.pool.now c.make_calls.new.pool
    (none_if_unsent c.args.self.now c.requires.store.0 c.requires.store.1)
    (none_if_idle t c.in_ok-refuse.ensures.ok.1) refl c.make_calls.ensures.sent
