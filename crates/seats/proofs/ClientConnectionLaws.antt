-- How a connection at a server's seats goes on.
use Rattle.std.proofs.Common.{◌≡◌, ◌⊎◌, ◌∙◌, Bool, true, false, [], ◌∷◌, ◌++◌, Option, Some, None, inl, inr, refl, ap}
use Rattle.std.proofs.Common.{sym, subst}
use Rattle.std.proofs.Common.{append_assoc, append-nil, All, List, Result, Ok, Err, IfOk, MatchBool, OnErr}
use Rattle.std.proofs.Common.{MatchOption}
use Rattle.std.proofs.lemmas.List.Elements.{All-nil, All-cons, All-head, All-tail}
use Rattle.table.specs.declared.operations.Op.{Op}
use Rattle.table.specs.declared.operations.Target.{Target}
use Rattle.table.specs.declared.operations.Call.{Call}
use Rattle.table.specs.declared.operations.Reply.{Reply}
use Rattle.table.specs.declared.operations.Reply.TheVariants.{Value}
use Rattle.table.specs.Items.{Item}
use Rattle.proto.specs.Turns.{Outcome, Refused, Replied}
use Rattle.faces.specs.Histories.{History, IsLater, Instance}
use Rattle.serving.specs.Connections.{Connected, HasOutcome, IsLooked}
use Rattle.serving.specs.Serving.{AreAnswered, CameTo}
use Rattle.serving.specs.Wanted.{IsAsking}
use Rattle.serving.specs.declared.endings.ServeFault.{ServeFault}
use Rattle.serving.proofs.Served.{Stands, has_left, stands_answered}
use Rattle.rail.specs.CallSenders.{SentCall}
use Rattle.seats.specs.Submitters.{Submitting, IsAnswered}
use Rattle.seats.specs.Replies.{ShowsClean}
use Rattle.seats.specs.ClientConnections.{HoldsStore, IsFurther, IsPeeked, IsReplied, IsClientConnection, StandsAt}
use Rattle.seats.specs.ClientConnections.{AreAllAnswered, AreOpenAt, ClientConnectionState, HasSentAhead, Hearing}
use Rattle.seats.specs.ClientConnections.{HoldsAt, IsOpenAt, IsSameBut, hearing, next_ahead, next_standing}
use Rattle.seats.specs.SeatPools.{HasSentNothing, IsAt, Pooling}
use Rattle.seats.specs.declared.client_connections.CallStanding.{CallStanding}
use Rattle.seats.specs.declared.client_connections.CallStanding.TheVariants.{Idle, Over, Reading, Sent, Unsent}
use Rattle.seats.specs.declared.client_connections.Pause.{Pause}
use Rattle.seats.specs.declared.client_connections.Pause.TheVariants.{Seat}
use Rattle.seats.proofs.Seated.{later_same, later_then, submitted_then}

-- nothing more
pub further_same : (c : Connected) → IsFurther c c
further_same c =
    record {
      more = [];
      came = [];
      lines = [];
      read = refl;
      calls = sym (append-nil c.calls);
      outcomes = sym (append-nil c.outcomes);
      due = sym (append-nil c.due);
      written = refl;
      ended = refl;
    }

-- one after the other
pub further_then : (c d e : Connected) → IsFurther c d → IsFurther d e → IsFurther c e
further_then c d e p q =
    record {
      more = p.more ++ q.more;
      came = p.came ++ q.came;
      lines = p.lines ++ q.lines;
      read = q.read ∙ p.read;
      calls = q.calls ∙ (ap (λ xs. xs ++ q.more) p.calls ∙ append_assoc c.calls p.more q.more);
      outcomes = q.outcomes ∙ (ap (λ xs. xs ++ q.came) p.outcomes ∙ append_assoc c.outcomes p.came q.came);
      due = q.due ∙ (ap (λ xs. xs ++ q.lines) p.due ∙ append_assoc c.due p.lines q.lines);
      written = q.written ∙ p.written;
      ended = q.ended ∙ p.ended;
    }

-- it was asked what it wants
pub further_looked : (c d : Connected) → IsLooked c d → IsFurther c d
further_looked c d looked =
    record {
      more = [];
      came = [];
      lines = looked.lines;
      read = looked.read;
      calls = looked.calls ∙ sym (append-nil c.calls);
      outcomes = looked.outcomes ∙ sym (append-nil c.outcomes);
      due = looked.due;
      written = looked.written;
      ended = looked.ended;
    }

-- a call came to something
pub further_outcome : (c d : Connected) (outcome : Outcome) → HasOutcome outcome c d → IsFurther c d
further_outcome c d outcome has =
    record {
      more = has.0 ∷ [];
      came = outcome ∷ [];
      lines = has.2;
      read = ap (λ x. x.read) has.4;
      calls = ap (λ x. x.calls) has.4;
      outcomes = ap (λ x. x.outcomes) has.4;
      due = ap (λ x. x.due) has.4;
      written = ap (λ x. x.written) has.4;
      ended = ap (λ x. x.ended) has.4;
    }

-- memory was refused to it
pub further_failed : (c d : Connected) (b : Bool) → d ≡ record c { failed = b } → IsFurther c d
further_failed c d b e =
    record {
      more = [];
      came = [];
      lines = [];
      read = ap (λ x. x.read) e;
      calls = ap (λ x. x.calls) e ∙ sym (append-nil c.calls);
      outcomes = ap (λ x. x.outcomes) e ∙ sym (append-nil c.outcomes);
      due = ap (λ x. x.due) e ∙ sym (append-nil c.due);
      written = ap (λ x. x.written) e;
      ended = ap (λ x. x.ended) e;
    }

-- the calls and what they came to are the same
pub answered_same : (first seen : History) (heard : List Submitting) (c d : Connected)
    → d.calls ≡ c.calls → d.outcomes ≡ c.outcomes
    → AreAllAnswered first c.calls c.outcomes heard seen
    → AreAllAnswered first d.calls d.outcomes heard seen
answered_same first seen heard c d calls outcomes a =
    subst (λ cs. AreAllAnswered first cs d.outcomes heard seen) (sym calls)
    (subst (λ rs. AreAllAnswered first c.calls rs heard seen) (sym outcomes) a)

-- the call that waits came to something
pub answered_next : (first before after : Hearing) (c d : Connected) (call : Call) (later : List Call)
    (outcome : Outcome)
    → c.waiting ≡ call ∷ later → HasOutcome outcome c d → CameTo IsReplied before call outcome after
    → AreAnswered IsReplied first c.calls c.outcomes before
    → AreAnswered IsReplied first d.calls d.outcomes after
answered_next first before after c d call later outcome waits has by a =
    let stands : Stands IsReplied first [] d ([] ++ c.written) after =
    stands_answered IsReplied first [] c d call later outcome ([] ++ c.written) before after waits has by
    (record { calls = a; written = refl }) in
    stands.calls

-- a look came to it, or a refusal, and no seat was heard
pub came_replied : (seen then : History) (heard : List Submitting) (call : Call) (outcome : Outcome)
    → CameTo IsPeeked seen call outcome then
    → CameTo IsReplied (hearing seen heard) call outcome (hearing then heard)
came_replied seen then heard call (Replied reply) came = inl (came, refl)
came_replied seen then heard call Refused came = (came.0, ap (λ (h : History). hearing h heard) came.1)

-- what was answered at a seat, after a look
pub answered_later : (seen before after : History) (s t : Submitting) (reply : Reply) → IsLater seen before
    → IsAnswered before after s t reply
    → IsAnswered seen after s t reply
answered_later seen before after s t reply later a =
    record {
      sent = a.sent;
      waits = a.waits;
      submitted = submitted_then seen before after s.seat t.seat a.sent reply later a.submitted;
      kind = a.kind;
      free = a.free;
      lost = a.lost;
    }

-- it was asked what it wants, seen as a client connection's
pub further_view : (before after : Connected) (t : ClientConnectionState) → before ≡ t.connected → IsLooked before after
    → IsFurther t.connected after
further_view before after t e looked = subst (λ c. IsFurther c after) e (further_looked before after looked)

-- it is as it was
pub further_as : (c d : Connected) → d ≡ c → IsFurther c d
further_as c d e = subst (λ x. IsFurther c x) (sym e) (further_same c)

-- as a client connection shows it
pub as_shown : (t : ClientConnectionState) (c d : Connected) → c ≡ t.connected → IsFurther c d → IsFurther t.connected d
as_shown t c d e further = subst (λ x. IsFurther x d) e further

-- what was seen is what the pool's reader has seen
pub known_now : (p q : History) → p ≡ q → IsLater p q
known_now p q e = subst (λ x. IsLater x q) (sym e) (later_same q)

-- a look answered the call that waits
pub peeked_came : (seen before after then : History) (c d : Connected) (call : Call) (reply : Reply)
    → IsLater seen before
    → IsLater before after
    → ((item : Option Item) × (reply ≡ Value item) × ShowsClean after call item)
    → HasOutcome (Replied reply) c d
    → then ≡ after
    → (outcome : Outcome) × CameTo IsPeeked seen call outcome then × HasOutcome outcome c d
peeked_came seen before after then c d call reply known later (item, is, shown) has e = (
  Replied reply,
  subst (λ x. IsPeeked seen call reply x) (sym e)
      (record { item = item; later = later_then seen before after known later; shown = shown; reply_is = is }),
  has,
)

-- no seat is of another server
all_of_none : (ahead : List Submitting) (o : Instance) → ahead ≡ [] → All (IsAt o) ahead
all_of_none ahead o none = subst (All (IsAt o)) (sym none) (All-nil (IsAt o))

-- of an idle one none was sent ahead
pub none_if_idle : (standing : CallStanding) (ahead : List Submitting) (c : Connected) (o : Instance)
    → StandsAt standing ahead c o → standing ≡ Idle → ahead ≡ []
none_if_idle standing ahead c o stands e = (subst (λ x. StandsAt x ahead c o) e stands).1

-- A call was asked for: it came to something at once, or it waits for a seat, or there was a fault.
module _ (r : Result (Option Pause) ServeFault) (c d e : Connected) (next : CallStanding) (first seen then : History)
    (target : Target) (op : Op) (looked : IsLooked c d) (asking : IsAsking target op d)
    (ok : IfOk r (λ found. MatchOption found
    ((outcome : Outcome) × CameTo IsPeeked seen (record { target = target; op = op }) outcome then
    × HasOutcome outcome d e × (next ≡ Idle))
    (λ went. (went ≡ Seat) × (next ≡ Unsent (record { target = target; op = op })) × (e ≡ d) × (then ≡ seen))))
    (err : OnErr r ((next ≡ Over) × (then ≡ seen) × (e ≡ record d { failed = e.failed }))) where
  abbrev call : Call
  call = record { target = target; op = op }

  pub asked_further : IsFurther c e
  asked_further = by r ok err
    where
      by : (s : Result (Option Pause) ServeFault)
          → IfOk s (λ found. MatchOption found
          ((outcome : Outcome) × CameTo IsPeeked seen call outcome then × HasOutcome outcome d e × (next ≡ Idle))
          (λ went. (went ≡ Seat) × (next ≡ Unsent call) × (e ≡ d) × (then ≡ seen)))
          → OnErr s ((next ≡ Over) × (then ≡ seen) × (e ≡ record d { failed = e.failed }))
          → IsFurther c e
      by (Ok None) a b = further_then c d e (further_looked c d looked) (further_outcome d e a.0 a.2)
      by (Ok (Some went)) a b = subst (λ x. IsFurther c x) (sym a.2) (further_looked c d looked)
      by (Err fault) a b = further_then c d e (further_looked c d looked) (further_failed d e e.failed b.2)

  pub asked_client_connection : (ahead heard : List Submitting) → ahead ≡ []
      → AreAllAnswered first c.calls c.outcomes heard seen
      → IsClientConnection e next ahead heard first then
  asked_client_connection ahead heard none is = by r ok err
    where
      before : AreAllAnswered first d.calls d.outcomes heard seen
      before = answered_same first seen heard c d looked.calls looked.outcomes is

      by : (s : Result (Option Pause) ServeFault)
          → IfOk s (λ found. MatchOption found
          ((outcome : Outcome) × CameTo IsPeeked seen call outcome then × HasOutcome outcome d e × (next ≡ Idle))
          (λ went. (went ≡ Seat) × (next ≡ Unsent call) × (e ≡ d) × (then ≡ seen)))
          → OnErr s ((next ≡ Over) × (then ≡ seen) × (e ≡ record d { failed = e.failed }))
          → IsClientConnection e next ahead heard first then
      by (Ok None) a b =
          record {
            answered = answered_next (hearing first []) (hearing seen heard) (hearing then heard) d e call [] a.0
                asking.waiting a.2 (came_replied seen then heard call a.0 a.1) before;
            stands = subst (λ s. StandsAt s ahead e then.instance) (sym a.3)
                (has_left d e call [] a.0 asking.waiting a.2, none);
          }
      by (Ok (Some went)) a b =
          record {
            answered = subst (λ x. AreAllAnswered first e.calls e.outcomes heard x) (sym a.3)
                (answered_same first seen heard d e (ap (λ x. x.calls) a.2) (ap (λ x. x.outcomes) a.2) before);
            stands = subst (λ s. StandsAt s ahead e then.instance) (sym a.1)
                (ap (λ x. x.waiting) a.2 ∙ asking.waiting, (asking.fits, asking.suits), none);
          }
      by (Err fault) a b =
          record {
            answered = subst (λ x. AreAllAnswered first e.calls e.outcomes heard x) (sym b.1)
                (answered_same first seen heard d e (ap (λ x. x.calls) b.2) (ap (λ x. x.outcomes) b.2) before);
            stands = subst (λ s. StandsAt s ahead e then.instance) (sym b.0) (all_of_none ahead then.instance none);
          }

-- and then no call waits
pub refused_client_connection : (c d : Connected) (standing next : CallStanding) (ahead heard : List Submitting)
    (first seen : History)
    → IsClientConnection c standing ahead heard first seen
    → HoldsStore standing
    → HasOutcome Refused c d
    → next ≡ Idle
    → IsClientConnection d next ahead heard first seen
refused_client_connection c d standing next ahead heard first seen is (asked, e, stores) has idle =
    let stood = subst (λ x. StandsAt x ahead c seen.instance) e is.stands in
    record {
      answered = answered_next (hearing first []) (hearing seen heard) (hearing seen heard) c d asked [] Refused stood.0 has
          (stores, refl) is.answered;
      stands = subst (λ s. StandsAt s ahead d seen.instance) (sym idle)
          (has_left c d asked [] Refused stood.0 has, stood.2);
    }

-- the call that waited for a seat is open at this one
pub sent_client_connection : (c : Connected) (standing next : CallStanding) (ahead heard : List Submitting)
    (first seen : History) (s : Submitting)
    (sent : SentCall)
    → IsClientConnection c standing ahead heard first seen
    → standing ≡ Unsent sent.call
    → next ≡ Sent s
    → s.waiting ≡ Some sent
    → s.seat.instance ≡ seen.instance
    → IsClientConnection c next ahead heard first seen
sent_client_connection c standing next ahead heard first seen s sent is unsent e opened at =
    let stood = subst (λ x. StandsAt x ahead c seen.instance) unsent is.stands in
    record {
      answered = is.answered;
      stands = subst (λ x. StandsAt x ahead c seen.instance) (sym e)
          (subst (λ a. AreOpenAt seen.instance (s ∷ a) c.waiting) (sym stood.2)
          (subst (AreOpenAt seen.instance (s ∷ [])) (sym stood.0)
          (record { sent = sent; is = refl; opened = opened; here = at }, tt)));
    }

-- one more call is open
open_more : (o : Instance) (ss : List Submitting) (calls : List Call) (s : Submitting) (call : Call)
    → AreOpenAt o ss calls → IsOpenAt o s call → AreOpenAt o (ss ++ s ∷ []) (calls ++ call ∷ [])
open_more o [] [] s call all one = (one, tt)
open_more o [] (c ∷ calls) s call all one = absurd all
open_more o (t ∷ ss) [] s call all one = absurd all
open_more o (t ∷ ss) (c ∷ calls) s call all one = (all.0, open_more o ss calls s call all.1 one)

-- all of them are of this server
open_here : (o : Instance) (ss : List Submitting) (calls : List Call) → AreOpenAt o ss calls → All (IsAt o) ss
open_here o [] calls all = All-nil (IsAt o)
open_here o (s ∷ ss) [] all = absurd all
open_here o (s ∷ ss) (call ∷ calls) all = All-cons (IsAt o) s ss all.0.here (open_here o ss calls all.1)

-- wherever it stands, its seats are of its server
pub seats_here : (standing : CallStanding) (ahead : List Submitting) (c : Connected) (o : Instance)
    → StandsAt standing ahead c o → HoldsAt o standing × All (IsAt o) ahead
seats_here Idle ahead c o stands = (tt, all_of_none ahead o stands.1)
seats_here Reading ahead c o stands = (tt, all_of_none ahead o stands.1)
seats_here (Unsent call) ahead c o stands = (tt, all_of_none ahead o stands.2)
seats_here (Sent s) ahead c o stands =
    let all = open_here o (s ∷ ahead) c.waiting stands in
    (All-head (IsAt o) s ahead all, All-tail (IsAt o) s ahead all)
seats_here Over ahead c o stands = (tt, stands)

-- it goes no further
pub over_client_connection : (c d : Connected) (standing : CallStanding) (ahead heard : List Submitting)
    (first seen : History)
    → IsClientConnection c standing ahead heard first seen
    → d.calls ≡ c.calls → d.outcomes ≡ c.outcomes
    → IsClientConnection d Over ahead heard first seen
over_client_connection c d standing ahead heard first seen is calls outcomes =
    record {
      answered = answered_same first seen heard c d calls outcomes is.answered;
      stands = (seats_here standing ahead c seen.instance is.stands).1;
    }

-- one more update was sent ahead
pub ahead_client_connection : (c d : Connected) (standing : CallStanding) (ahead longer heard : List Submitting)
    (first seen : History) (p q : Pooling) (s : Submitting)
    → IsClientConnection c standing ahead heard first seen
    → standing ≡ Sent s
    → p.seen.instance ≡ seen.instance
    → HasSentAhead p q c d ahead longer
    → IsClientConnection d standing longer heard first seen
ahead_client_connection c d standing ahead longer heard first seen p q s is e same has =
    let stood = subst (λ x. StandsAt x ahead c seen.instance) e is.stands in
    let opened = subst (λ x. IsOpenAt x has.s has.call) same has.opened in
    record {
      answered = answered_same first seen heard c d (ap (λ x. x.calls) has.waits) (ap (λ x. x.outcomes) has.waits)
          is.answered;
      stands = subst (λ x. StandsAt x longer d seen.instance) (sym e)
          (subst (λ a. AreOpenAt seen.instance (s ∷ a) d.waiting) (sym has.seats)
          (subst (AreOpenAt seen.instance (s ∷ (ahead ++ has.s ∷ []))) (sym (ap (λ x. x.waiting) has.waits))
          (open_more seen.instance (s ∷ ahead) c.waiting has.s has.call stood opened)));
    }

-- none was, and memory may have been refused
pub failed_client_connection : (c d : Connected) (b : Bool) (standing : CallStanding)
    (ahead longer heard : List Submitting) (first seen : History) (s : Submitting)
    → IsClientConnection c standing ahead heard first seen
    → standing ≡ Sent s
    → d ≡ record c { failed = b }
    → longer ≡ ahead
    → IsClientConnection d standing longer heard first seen
failed_client_connection c d b standing ahead longer heard first seen s is e same seats =
    let stood = subst (λ x. StandsAt x ahead c seen.instance) e is.stands in
    record {
      answered = answered_same first seen heard c d (ap (λ x. x.calls) same) (ap (λ x. x.outcomes) same) is.answered;
      stands = subst (λ x. StandsAt x longer d seen.instance) (sym e)
          (subst (λ a. AreOpenAt seen.instance (s ∷ a) d.waiting) (sym seats)
          (subst (AreOpenAt seen.instance (s ∷ ahead)) (sym (ap (λ x. x.waiting) same)) stood));
    }

-- one more was sent ahead, or none
pub maybe_ahead : (b : Bool) (c d : Connected) (standing : CallStanding) (ahead longer heard : List Submitting)
    (first seen : History) (p q : Pooling) (s : Submitting)
    → IsClientConnection c standing ahead heard first seen
    → standing ≡ Sent s
    → p.seen.instance ≡ seen.instance
    → MatchBool b (HasSentAhead p q c d ahead longer)
    ((d ≡ record c { failed = d.failed }) × (longer ≡ ahead) × HasSentNothing p q)
    → IsClientConnection d standing longer heard first seen
maybe_ahead true c d standing ahead longer heard first seen p q s is e same has =
    ahead_client_connection c d standing ahead longer heard first seen p q s is e same has
maybe_ahead false c d standing ahead longer heard first seen p q s is e same has =
    failed_client_connection c d d.failed standing ahead longer heard first seen s is e has.0 has.1

-- it stands at the next call that was sent
next_stands : (o : Instance) (ahead : List Submitting) (d : Connected) (later : List Call) → d.waiting ≡ later
    → AreOpenAt o ahead later
    → StandsAt (next_standing ahead) (next_ahead ahead) d o
next_stands o [] d [] waits all = (waits, refl)
next_stands o [] d (call ∷ later) waits all = absurd all
next_stands o (s ∷ ss) d later waits all = subst (AreOpenAt o (s ∷ ss)) (sym waits) all

-- and has it
pub hear_client_connection : (c d : Connected) (standing : CallStanding) (ahead heard longer : List Submitting)
    (first seen p q now : History)
    (s t : Submitting) (reply : Reply)
    → IsClientConnection c standing ahead heard first seen
    → standing ≡ Sent s
    → IsLater seen p
    → IsAnswered p q s t reply
    → HasOutcome (Replied reply) c d
    → now ≡ q
    → longer ≡ heard ++ s ∷ []
    → IsClientConnection d (next_standing ahead) (next_ahead ahead) longer first now
hear_client_connection c d standing ahead heard longer first seen p q now s t reply is e known a has same more =
    subst (λ x. IsClientConnection d (next_standing ahead) (next_ahead ahead) longer first x) (sym same)
    (by c.waiting refl (subst (λ x. StandsAt x ahead c seen.instance) e is.stands))
  where
    by : (waiting : List Call) → c.waiting ≡ waiting → AreOpenAt seen.instance (s ∷ ahead) waiting
        → IsClientConnection d (next_standing ahead) (next_ahead ahead) longer first q
    by [] waits all = absurd all
    by (call ∷ later) waits all =
        let at : seen.instance ≡ q.instance = sym (a.submitted.later.instance ∙ known.instance) in
        record {
          answered = answered_next (hearing first []) (hearing seen heard) (hearing q longer) c d call later
              (Replied reply) waits has
              (inr (record {
                seat = s;
                freed = t;
                opened = all.0;
                answered = answered_later seen p q s t reply known a;
                heard = more;
              }))
              is.answered;
          stands = subst (λ o. StandsAt (next_standing ahead) (next_ahead ahead) d o) at
              (next_stands seen.instance ahead d later (has_left c d call later (Replied reply) waits has) all.1);
        }

-- where it stands next, a call was sent, or none waits
pub next_heard : (standing : CallStanding) (ahead : List Submitting) → standing ≡ next_standing ahead
    → (standing ≡ Idle) ⊎ ((s : Submitting) × (standing ≡ Sent s))
next_heard standing [] e = inl e
next_heard standing (s ∷ ss) e = inr (s, e)

-- nothing came of it, twice
pub same_then : (t u v : ClientConnectionState) → IsSameBut t u → IsSameBut u v → IsSameBut t v
same_then t u v a b =
    record {
      connected = b.connected
          ∙ ap (λ (c : Connected). record c { waiting = v.connected.waiting; failed = v.connected.failed }) a.connected;
      heard = b.heard ∙ a.heard;
      first = b.first ∙ a.first;
      seen = b.seen ∙ a.seen;
    }
