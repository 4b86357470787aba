-- What is heard at the seats of a connection.
use Rattle.std.proofs.Common.{◌≡◌, ◌∙◌, [], ◌∷◌, ◌++◌, Bool, true, false, List, refl, ap, sym, subst, arith}
use Rattle.std.proofs.Common.{append_assoc, append-nil, length, length-append, map, MatchBool, Result, Ok, Err, OnErr}
use Rattle.table.specs.declared.operations.Call.{Call}
use Rattle.table.specs.declared.operations.Reply.{Reply}
use Rattle.proto.specs.Turns.{Outcome, Replied}
use Rattle.faces.specs.Histories.{History, IsLater, Instance}
use Rattle.serving.specs.Connections.{Connected, HasOutcome}
use Rattle.seats.specs.Submitters.{IsAnswered, Submitting}
use Rattle.seats.specs.ClientConnections.{AreAnsweredAt, AreOpenAt, ClientConnectionState, HasHeard, HasHeardInTurn}
use Rattle.seats.specs.ClientConnections.{next_ahead, next_standing, seats_open}
use Rattle.seats.specs.SeatPools.{Pooling}
use Rattle.seats.specs.declared.client_connections.CallStanding.TheVariants.{Sent}
use Rattle.seats.proofs.Seated.{later_same, later_then}
use Rattle.seats.proofs.ClientConnectionLaws.{answered_later, next_heard}

-- nothing was heard
pub heard_none : (t u : ClientConnectionState) (p q : Pooling) → IsLater p.seen q.seen
    → u.connected.waiting ≡ t.connected.waiting
    → u.connected.calls ≡ t.connected.calls
    → u.connected.outcomes ≡ t.connected.outcomes
    → u.heard ≡ t.heard
    → HasHeardInTurn t u p q (seats_open t.standing t.ahead)
heard_none t u p q later waits calls outcomes heard =
    record {
      seats = [];
      calls = [];
      replies = [];
      first = refl;
      opened = tt;
      answered = later;
      waited = sym waits;
      called = calls ∙ sym (append-nil t.connected.calls);
      outcomes = outcomes ∙ sym (append-nil t.connected.outcomes);
      heard = heard ∙ sym (append-nil t.heard);
    }

-- the same, of one that is as it was
pub heard_still : (t u : ClientConnectionState) (p q : Pooling) → u ≡ t → IsLater p.seen q.seen
    → HasHeardInTurn t u p q (seats_open u.standing u.ahead)
heard_still t u p q e later =
    subst (λ (x : ClientConnectionState). HasHeardInTurn x u p q (seats_open u.standing u.ahead)) e
    (heard_none u u p q later refl refl refl refl)

pub heard_same : (t : ClientConnectionState) (p : Pooling) → HasHeardInTurn t t p p (seats_open t.standing t.ahead)
heard_same t p = heard_none t t p p (later_same p.seen) refl refl refl refl

-- the seats that are left are those that were sent ahead
next_open : (ahead : List Submitting) → seats_open (next_standing ahead) (next_ahead ahead) ≡ ahead
next_open [] = refl
next_open (s ∷ ss) = refl

-- the reply to the call at which it stood was heard
pub heard_one : (t u : ClientConnectionState) (p q r : Pooling) (s freed : Submitting) (reply : Reply)
    → t.standing ≡ Sent s
    → u.standing ≡ next_standing t.ahead
    → u.ahead ≡ next_ahead t.ahead
    → u.heard ≡ t.heard ++ s ∷ []
    → AreOpenAt t.seen.instance (s ∷ t.ahead) t.connected.waiting
    → IsLater t.seen p.seen
    → IsAnswered p.seen q.seen s freed reply
    → HasOutcome (Replied reply) t.connected u.connected
    → r.seen ≡ q.seen
    → HasHeardInTurn t u p r (seats_open u.standing u.ahead)
heard_one t u p q r s freed reply e next ahead heard stood known a has same =
    let waited = subst (AreOpenAt t.seen.instance (s ∷ t.ahead)) has.3 stood in
    record {
      seats = s ∷ [];
      calls = has.0 ∷ [];
      replies = reply ∷ [];
      first = ap (λ x. seats_open x t.ahead) e
          ∙ ap (λ (ss : List Submitting). s ∷ ss) (sym (ap (λ x. seats_open x u.ahead) next
          ∙ (ap (λ (ss : List Submitting). seats_open (next_standing t.ahead) ss) ahead ∙ next_open t.ahead)));
      opened = subst (λ (o : Instance). AreOpenAt o (s ∷ []) (has.0 ∷ [])) (sym known.instance) (waited.0, tt);
      answered = (q.seen, freed, a, subst (λ (h : History). IsLater q.seen h) (sym same) (later_same q.seen));
      waited = has.3 ∙ ap (λ (cs : List Call). has.0 ∷ cs) (sym (ap (λ (x : Connected). x.waiting) has.4));
      called = ap (λ (x : Connected). x.calls) has.4;
      outcomes = ap (λ (x : Connected). x.outcomes) has.4;
      heard = heard;
    }

-- calls were open at these seats, and at those
open_both : (o : Instance) (ss ts : List Submitting) (cs ds : List Call) → AreOpenAt o ss cs → AreOpenAt o ts ds
    → AreOpenAt o (ss ++ ts) (cs ++ ds)
open_both o [] ts [] ds a b = b
open_both o [] ts (c ∷ cs) ds a b = absurd a
open_both o (s ∷ ss) ts [] ds a b = absurd a
open_both o (s ∷ ss) ts (c ∷ cs) ds a b = (a.0, open_both o ss ts cs ds a.1 b)

-- after more was seen these were answered
answered_from : (before mid after : History) (ss : List Submitting) (rs : List Reply) → IsLater before mid
    → AreAnsweredAt mid ss rs after
    → AreAnsweredAt before ss rs after
answered_from before mid after [] [] later a = later_then before mid after later a
answered_from before mid after [] (r ∷ rs) later a = absurd a
answered_from before mid after (s ∷ ss) [] later a = absurd a
answered_from before mid after (s ∷ ss) (r ∷ rs) later a =
    (a.0, a.1, answered_later before mid a.0 s a.1 r later a.2, a.3)

-- these, and then those
answered_both : (before mid after : History) (ss ts : List Submitting) (rs qs : List Reply)
    → AreAnsweredAt before ss rs mid
    → AreAnsweredAt mid ts qs after
    → AreAnsweredAt before (ss ++ ts) (rs ++ qs) after
answered_both before mid after [] ts [] qs a b = answered_from before mid after ts qs a b
answered_both before mid after [] ts (r ∷ rs) qs a b = absurd a
answered_both before mid after (s ∷ ss) ts [] qs a b = absurd a
answered_both before mid after (s ∷ ss) ts (r ∷ rs) qs a b =
    (a.0, a.1, a.2, answered_both a.0 mid after ss ts rs qs a.3 b)

replied_both : (rs qs : List Reply) → map Replied (rs ++ qs) ≡ map Replied rs ++ map Replied qs
replied_both [] qs = refl
replied_both (r ∷ rs) qs = ap (λ (os : List Outcome). Replied r ∷ os) (replied_both rs qs)

-- some were heard, and then more
pub heard_then : (t u v : ClientConnectionState) (p q r : Pooling) (left : List Submitting) → IsLater p.seen q.seen
    → HasHeardInTurn t u p q (seats_open u.standing u.ahead)
    → HasHeardInTurn u v q r left
    → HasHeardInTurn t v p r left
heard_then t u v p q r left later a b =
    record {
      seats = a.seats ++ b.seats;
      calls = a.calls ++ b.calls;
      replies = a.replies ++ b.replies;
      first = a.first ∙ (ap (λ ss. a.seats ++ ss) b.first ∙ sym (append_assoc a.seats b.seats left));
      opened = open_both p.seen.instance a.seats b.seats a.calls b.calls a.opened
          (subst (λ (o : Instance). AreOpenAt o b.seats b.calls) later.instance b.opened);
      answered = answered_both p.seen q.seen r.seen a.seats b.seats a.replies b.replies a.answered b.answered;
      waited = a.waited ∙ (ap (λ cs. a.calls ++ cs) b.waited ∙ sym (append_assoc a.calls b.calls v.connected.waiting));
      called = b.called ∙ (ap (λ cs. cs ++ b.calls) a.called ∙ append_assoc t.connected.calls a.calls b.calls);
      outcomes = b.outcomes ∙ (ap (λ os. os ++ map Replied b.replies) a.outcomes
          ∙ (append_assoc t.connected.outcomes (map Replied a.replies) (map Replied b.replies)
          ∙ ap (λ os. t.connected.outcomes ++ os) (sym (replied_both a.replies b.replies))));
      heard = b.heard ∙ (ap (λ ss. ss ++ b.seats) a.heard ∙ append_assoc t.heard a.seats b.seats);
    }

-- one call more has its reply
pub has_heard : (t u : ClientConnectionState) (s : Submitting) (ahead : List Submitting)
    → u.standing ≡ next_standing ahead
    → u.heard ≡ t.heard ++ s ∷ []
    → HasHeard t u
has_heard t u s ahead next heard = (
  omega (arith, ap (λ (ss : List Submitting). length ss) heard, length-append t.heard (s ∷ [])),
  next_heard u.standing ahead next,
)

-- some had theirs before, or none, and one call more has its
pub heard_more : (b : Bool) (t u v : ClientConnectionState) → MatchBool b (HasHeard t u) (u ≡ t) → HasHeard u v
    → HasHeard t v
heard_more true t u v was now = (omega (arith, was.0, now.0), now.1)
heard_more false t u v same now = subst (λ (x : ClientConnectionState). HasHeard x v) same now

-- and as a client connection shows it
pub heard_as : (t shown u : ClientConnectionState) (p q : Pooling) → t ≡ shown → HasHeard t u
    → HasHeardInTurn t u p q (seats_open u.standing u.ahead)
    → HasHeard shown u × HasHeardInTurn shown u p q (seats_open u.standing u.ahead)
heard_as t shown u p q e heard turn =
    subst (λ (x : ClientConnectionState). HasHeard x u × HasHeardInTurn x u p q (seats_open u.standing u.ahead)) e
    (heard, turn)

-- what holds of an error
pub on_err : {T E : Type 0} (r : Result T E) (P : Type 0) → P → OnErr r P
on_err (Ok x) P p = tt
on_err (Err e) P p = p
