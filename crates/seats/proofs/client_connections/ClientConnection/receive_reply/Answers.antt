use Rattle.std.proofs.Common.{◌∙◌, List, true, ap, refl, sym, subst}
use Rattle.proto.specs.Turns.{Replied}
use Rattle.faces.specs.Histories.{History, IsLater}
use Rattle.seats.specs.ClientConnections.{IsClientConnection, ClientConnectionState, StandsAt}
use Rattle.seats.specs.ClientConnections.{next_standing}
use Rattle.seats.specs.Submitters.{Submitting}
use Rattle.seats.specs.declared.client_connections.CallStanding.{CallStanding}
use Rattle.seats.specs.declared.client_connections.CallStanding.TheVariants.{Over}
use Rattle.seats.proofs.Seated.{later_same}
use Rattle.seats.proofs.ClientConnectionLaws.{as_shown, further_failed, further_outcome, further_same}
use Rattle.seats.proofs.ClientConnectionLaws.{hear_client_connection, known_now, over_client_connection}
use Rattle.seats.proofs.HeardInTurn.{has_heard, heard_as, heard_none, heard_one, on_err}
use Rattle.seats.proofs.client_connections.ClientConnection.receive_reply.Goals as goal

pub returns-in_default : goal.returns-in_default
returns-in_default g c =
    record {
      known = subst (λ (t : ClientConnectionState). IsLater t.seen c.args.pool.now.seen) (sym c.self.view_is)
          c.requires.known;
      later = later_same _;
      first = ap (λ (t : ClientConnectionState). t.first) c.self.view_is;
      further = as_shown c.args.self.now _ _ (ap (λ (t : ClientConnectionState). t.connected) c.self.view_is)
          (further_same _);
      looks = refl;
      unsent = refl;
      heard = c.self.view_is;
      unheard = tt;
      unfailed = refl;
      cause = tt;
      over = tt;
    }

pub returns-in_err-hand_on-in-Ok-Some-clause-further : goal.returns-in_err-hand_on-in-Ok-Some-clause-further
returns-in_err-hand_on-in-Ok-Some-clause-further g c =
    as_shown c.args.self.now c.self.inside.connection c.hand_on.new.connection
    (ap (λ (t : ClientConnectionState). t.connected) c.self.view_is)
    (further_failed c.self.inside.connection c.hand_on.new.connection true c.in_err-hand_on-in-Ok-Some.ensures.err.1)

pub returns-in-Ok-None-clause-further : goal.returns-in-Ok-None-clause-further
returns-in-Ok-None-clause-further g c =
    as_shown c.args.self.now _ _ (ap (λ (t : ClientConnectionState). t.connected) c.self.view_is) (further_same _)

pub returns-in_ok-hand_on-in-Ok-Some-clause-known : goal.returns-in_ok-hand_on-in-Ok-Some-clause-known
returns-in_ok-hand_on-in-Ok-Some-clause-known g c =
    known_now c.hand_on.new.seen c.give_back.new.pool.seen c.in_ok-hand_on-in-Ok-Some.ensures.ok.1

pub returns-in_ok-hand_on-in-Ok-Some-clause-further : goal.returns-in_ok-hand_on-in-Ok-Some-clause-further
returns-in_ok-hand_on-in-Ok-Some-clause-further g c =
    as_shown c.args.self.now c.self.inside.connection c.hand_on.new.connection
    (ap (λ (t : ClientConnectionState). t.connected) c.self.view_is)
    (further_outcome c.self.inside.connection c.hand_on.new.connection (Replied c.in-Ok-Some.reply)
    c.in_ok-hand_on-in-Ok-Some.ensures.ok.0)

pub returns-in-Err-clause-further : goal.returns-in-Err-clause-further
returns-in-Err-clause-further g c =
    as_shown c.args.self.now _ _ (ap (λ (t : ClientConnectionState). t.connected) c.self.view_is) (further_same _)

pub invariant_of-self-in-Ok-Some : goal.invariant_of-self-in-Ok-Some
invariant_of-self-in-Ok-Some g c =
    let s = c.self.inside in
    let found = rw c.in-Ok-Some.field-0-is at c.in-Ok-Some.ensures in
    subst (λ (x : CallStanding). IsClientConnection c.hand_on.new.connection x c.next_standing.new.ahead.items
    c.plus-heard.result.all s.first c.hand_on.new.seen)
    (sym (c.stand_at.ensures ∙ c.next_standing.ensures.standing))
    (subst (λ (a : List Submitting). IsClientConnection c.hand_on.new.connection (next_standing s.ahead.items) a
    c.plus-heard.result.all s.first c.hand_on.new.seen)
    (sym c.next_standing.ensures.ahead)
    (hear_client_connection s.connection c.hand_on.new.connection s.standing s.ahead.items s.heard.all
    c.plus-heard.result.all s.first s.seen
    c.args.pool.now.seen
    c.take_reply.new.self.seen c.hand_on.new.seen c.in-Sent.submitter c.take_reply.new.submitter c.in-Ok-Some.reply
    c.self.invariant c.in-Sent.is
    (subst (λ (t : ClientConnectionState). IsLater t.seen c.args.pool.now.seen) (sym c.self.view_is) c.requires.known)
    found.taken
    c.in_ok-hand_on-in-Ok-Some.ensures.ok.0
    (c.in_ok-hand_on-in-Ok-Some.ensures.ok.1 ∙ c.give_back.ensures.pool.0) c.plus-heard.ensures))

pub invariant_of-self-in_err-hand_on-in-Ok-Some : goal.invariant_of-self-in_err-hand_on-in-Ok-Some
invariant_of-self-in_err-hand_on-in-Ok-Some g c =
    let s = c.self.inside in
    subst (λ (x : CallStanding). IsClientConnection c.hand_on.new.connection x s.ahead.items s.heard.all s.first
    c.hand_on.new.seen)
    (sym c.give_back.ensures.standing)
    (subst (λ (h : History). IsClientConnection c.hand_on.new.connection Over s.ahead.items s.heard.all s.first h)
    (sym c.in_err-hand_on-in-Ok-Some.ensures.err.0)
    (over_client_connection s.connection c.hand_on.new.connection s.standing s.ahead.items s.heard.all s.first s.seen
    c.self.invariant (ap (λ x. x.calls) c.in_err-hand_on-in-Ok-Some.ensures.err.1)
    (ap (λ x. x.outcomes) c.in_err-hand_on-in-Ok-Some.ensures.err.1)))

pub invariant_of-self-in-Err : goal.invariant_of-self-in-Err
invariant_of-self-in-Err g c =
    let s = c.self.inside in
    subst (λ (x : CallStanding). IsClientConnection s.connection x s.ahead.items s.heard.all s.first s.seen)
    (sym c.give_back-in-Err.ensures.standing)
    (over_client_connection s.connection s.connection s.standing s.ahead.items s.heard.all s.first s.seen
    c.self.invariant refl refl)

pub returns-in_ok-hand_on-in-Ok-Some-clause-heard : goal.returns-in_ok-hand_on-in-Ok-Some-clause-heard
returns-in_ok-hand_on-in-Ok-Some-clause-heard g c =
    let s = c.self.inside in
    let found = rw c.in-Ok-Some.field-0-is at c.in-Ok-Some.ensures in
    let stood = subst (λ (x : CallStanding). StandsAt x s.ahead.items s.connection s.seen.instance) c.in-Sent.is
    c.self.invariant.stands in
    let t : ClientConnectionState = record {
      connected = s.connection;
      standing = s.standing;
      ahead = s.ahead.items;
      heard = s.heard.all;
      first = s.first;
      seen = s.seen;
    } in
    let u : ClientConnectionState = record {
      connected = c.hand_on.new.connection;
      standing = c.stand_at.new.standing;
      ahead = c.next_standing.new.ahead.items;
      heard = c.plus-heard.result.all;
      first = s.first;
      seen = c.hand_on.new.seen;
    } in
    heard_as t c.args.self.now u c.args.pool.now c.give_back.new.pool c.self.view_is
    (has_heard t u c.in-Sent.submitter s.ahead.items (c.stand_at.ensures ∙ c.next_standing.ensures.standing)
    c.plus-heard.ensures)
    (heard_one t u c.args.pool.now c.take_reply.new.self c.give_back.new.pool c.in-Sent.submitter
    c.take_reply.new.submitter c.in-Ok-Some.reply c.in-Sent.is (c.stand_at.ensures ∙ c.next_standing.ensures.standing)
    c.next_standing.ensures.ahead c.plus-heard.ensures stood
    (subst (λ (x : ClientConnectionState). IsLater x.seen c.args.pool.now.seen) (sym c.self.view_is) c.requires.known)
    found.taken c.in_ok-hand_on-in-Ok-Some.ensures.ok.0 c.give_back.ensures.pool.0)

pub returns-in_err-hand_on-in-Ok-Some-clause-unheard : goal.returns-in_err-hand_on-in-Ok-Some-clause-unheard
returns-in_err-hand_on-in-Ok-Some-clause-unheard g c =
    let s = c.self.inside in
    let same = c.in_err-hand_on-in-Ok-Some.ensures.err.1 in
    let view = c.self.view_is in
    let u : ClientConnectionState = record {
      connected = c.hand_on.new.connection;
      standing = c.give_back.new.standing;
      ahead = s.ahead.items;
      heard = s.heard.all;
      first = s.first;
      seen = c.hand_on.new.seen;
    } in
    on_err c.from_residual.result _ (heard_none c.args.self.now u c.args.pool.now c.give_back.new.pool
    (subst (λ (h : History). IsLater c.args.pool.now.seen h) (sym c.give_back.ensures.pool.0) c.take_reply.ensures.later)
    (ap (λ x. x.waiting) same ∙ ap (λ (t : ClientConnectionState). t.connected.waiting) view)
    (ap (λ x. x.calls) same ∙ ap (λ (t : ClientConnectionState). t.connected.calls) view)
    (ap (λ x. x.outcomes) same ∙ ap (λ (t : ClientConnectionState). t.connected.outcomes) view)
    (ap (λ (t : ClientConnectionState). t.heard) view))

pub returns-in-Err-clause-unheard : goal.returns-in-Err-clause-unheard
returns-in-Err-clause-unheard g c =
    let s = c.self.inside in
    let view = c.self.view_is in
    let u : ClientConnectionState = record {
      connected = s.connection;
      standing = c.give_back-in-Err.new.standing;
      ahead = s.ahead.items;
      heard = s.heard.all;
      first = s.first;
      seen = s.seen;
    } in
    heard_none c.args.self.now u c.args.pool.now c.give_back-in-Err.new.pool
    (subst (λ (h : History). IsLater c.args.pool.now.seen h) (sym c.give_back-in-Err.ensures.pool.0)
    c.take_reply.ensures.later)
    (ap (λ (t : ClientConnectionState). t.connected.waiting) view)
    (ap (λ (t : ClientConnectionState). t.connected.calls) view)
    (ap (λ (t : ClientConnectionState). t.connected.outcomes) view)
    (ap (λ (t : ClientConnectionState). t.heard) view)
