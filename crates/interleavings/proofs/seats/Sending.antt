-- A call that a seat sends is a piece and a begin; to a server that has stopped it is nothing.
use Rattle.std.proofs.Common.{◌≡◌, ℕ, ◌+◌, true, false, cond, [], ◌∷◌, ◌++◌, length, Option, None, Some, refl, arith}
use Rattle.std.proofs.Common.{ap, sym, ◌∙◌, subst, inl, inr, append_assoc, append-nil}
use Rattle.std.specs.Prelude.{slice_get, not, ◌==◌}
use Rattle.std.proofs.lemmas.Bool.{cases_eq, cases_Bool, eqb-true, eq-eqb, ne_eqb, both_ways}
use Rattle.std.proofs.lemmas.List.{length-append}
use Rattle.table.specs.declared.operations.Call.{Call}
use Rattle.node.specs.declared.messages.Input.TheVariants.{Call as Called, Gone}
use Rattle.node.proofs.Lists.{In, in_pushed, get_last}
use Rattle.proto.specs.declared.texts.Form.{Form}
use Rattle.proto.specs.Turns.{Calls, Faulty}
use Rattle.proto.specs.Sessions.{Given, fed}
use Rattle.world.specs.declared.connections.Stage.{Stage}
use Rattle.world.specs.declared.connections.Stage.TheVariants.{Idle, Begun, Asked, Replied}
use Rattle.world.specs.declared.events.Event.TheVariants.{Piece, Begin}
use Rattle.world.specs.Connections.{Connection, came, past_faults, begun_by, begun, open_call, to_work}
use Rattle.world.specs.Waiting.{waiting_reply}
use Rattle.world.specs.Worlds.{World, lives, where_home_lives, happens}
use Rattle.interleavings.specs.Asked.{IsSpelled}
use Rattle.interleavings.specs.Chains.{RunningServer, Seat, Chain, with_at, with_running, with_seat, messages_from}
use Rattle.interleavings.specs.Chains.{messages_to, calls_from, replies_to}
use Rattle.interleavings.specs.Moves.{Sends, is_free, brought, sent, done}
use Rattle.interleavings.proofs.asking.OneRequest.{asks}
use Rattle.proto.proofs.RestedLaws.{GivesRested, IsRested}
use Rattle.interleavings.proofs.relation.StandsFor.{IsSeat, Reaches, Sits, StandsFor, Tallies, call_at, listed, queue}
use Rattle.interleavings.proofs.relation.StandsFor.{reply_at, sits_still}
use Rattle.interleavings.proofs.seats.OneSeat.{Reconnects, WaitsFor, one_seat, reconnects, reconnects_twice}
use Rattle.interleavings.proofs.lists.ChangedFunctions.{at_other, at_same, same_both}
use Rattle.interleavings.proofs.passing.Inboxes.{brought_node, brought_outbox, brought_stopped, from_brought}
use Rattle.interleavings.proofs.passing.Inboxes.{in_brought, queue_apart}
use Rattle.interleavings.proofs.lists.Joined.{calls_from-append, messages_from-append}
use Rattle.interleavings.proofs.passing.Passes.{passes}

-- ---- a free seat

idle_by : (stage : Stage) (calls replies got queued : ℕ)
    → Tallies stage calls replies
    → replies ≡ got + queued
    → calls ≡ got
    → stage ≡ Idle
idle_by Idle calls replies got queued t r f = refl
idle_by Begun calls replies got queued t r f = absurd (omega (arith, t, r, f))
idle_by Asked calls replies got queued t r f = absurd (omega (arith, t, r, f))
idle_by (Replied reply) calls replies got queued t r f = absurd (omega (arith, t, r, f))

-- what it has heard is all that was sent
pub all_heard : (w : World) (k : Connection) (s : Seat) → IsSeat w k s → lives w k.home ≡ true → s.calls ≡ k.calls
all_heard w k s g living = g.calls ∙ ap (λ cs. k.calls ++ cs) (g.heard living) ∙ append-nil k.calls

-- a free seat's connection is idle
pub idle : (w : World) (k : Connection) (s : Seat)
    → IsSeat w k s
    → lives w k.home ≡ true
    → is_free s ≡ true
    → k.stage ≡ Idle
idle w k s g living free =
    let same : length s.calls ≡ length s.got = eqb-true _ _ free in
    idle_by k.stage (length k.calls) (length k.replies) (length s.got) (length s.queued) g.tallies
    (ap length g.replies ∙ length-append s.got s.queued) (ap length (sym (all_heard w k s g living)) ∙ same)

-- ---- a piece and a begin

begun_gives : (given : Given) (k : Connection) (call : Call) (form : Form)
    → given.0 ≡ Some (Calls call form)
    → begun_by given k ≡ record k { session = given.1; calls = k.calls ++ call ∷ []; stage = Begun }
begun_gives (None, left) k call form e = absurd cc
begun_gives (Some (Faulty fault), left) k call form e = absurd cc
begun_gives (Some (Calls other shape), left) k call form e =
    let same : other ≡ call = cc in
    ap (λ x. record k { session = left; calls = k.calls ++ x ∷ []; stage = Begun }) same

module _ (w : World) (c : ℕ) (call : Call) (a : IsSpelled call) (k : Connection)
    (here : slice_get w.connections c ≡ Some k)
    (living : lives w k.home ≡ true) (stage : k.stage ≡ Idle) (rested : IsRested k.session) where
  -- the connection that has begun the call
  abbrev pub with_call : Connection
  with_call =
      record k { session = (past_faults (fed k.session a.bytes)).1; calls = k.calls ++ call ∷ []; stage = Begun }

  gives : GivesRested (past_faults (fed k.session a.bytes)) call a.form
  gives = asks k.session call a rested

  first : Reconnects w (happens w (Piece c a.bytes)) c (came a.bytes k)
  first = subst (λ x. Reconnects w (happens w (Piece c a.bytes)) c x) (ap (λ b. cond b (came a.bytes k) k) living)
      (reconnects w c (where_home_lives w (came a.bytes)) k here)

  begun_is : (u : World)
      → lives u k.home ≡ true
      → where_home_lives u (λ x. begun x.stage x) (came a.bytes k) ≡ with_call
  begun_is u alive = ap (λ b. cond b (begun k.stage (came a.bytes k)) (came a.bytes k)) alive
      ∙ ap (λ s. begun s (came a.bytes k)) stage
      ∙ begun_gives (past_faults (fed k.session a.bytes)) (came a.bytes k) call a.form gives.turn

  -- both events make it of the connection
  pub begins_call : Reconnects w (happens (happens w (Piece c a.bytes)) (Begin c)) c with_call
  begins_call =
      let u = happens w (Piece c a.bytes) in
      reconnects_twice w u (happens u (Begin c)) c (came a.bytes k) with_call first
      (subst (λ x. Reconnects u (happens u (Begin c)) c x) (begun_is u (first.lives k.home ∙ living))
      (reconnects u c (where_home_lives u (λ x. begun x.stage x)) (came a.bytes k) first.here))

  -- no bytes wait at its session
  pub rested_after : IsRested with_call.session
  rested_after = gives.rested

-- ---- the move, to a server that goes on

module _ (l : Chain) (w : World) (c : ℕ) (call : Call) (a : IsSpelled call) (h : StandsFor l w)
    (free : is_free (l.seats c) ≡ true) (going : (l.servers (l.seats c).home).stopped ≡ false) (k : Connection)
    (here : slice_get w.connections c ≡ Some k) (g : IsSeat w k (l.seats c)) where
  abbrev i : ℕ
  i = (l.seats c).home

  abbrev full : RunningServer
  full = record (l.servers i) { inbox = (l.servers i).inbox ++ Called c call ∷ [] }

  -- the seat's server lives,
  pub seat_lives : lives w k.home ≡ true
  seat_lives = subst (λ x. lives w x ≡ true) (sym g.home) (h.lives i ∙ ap not going)

  -- its connection is idle,
  pub at_idle : k.stage ≡ Idle
  at_idle = idle w k (l.seats c) g seat_lives free

  -- and each of its calls is answered
  pub all_answered : length k.calls ≡ length k.replies
  all_answered = subst (λ x. Tallies x (length k.calls) (length k.replies)) at_idle g.tallies

  full_queue : queue full ≡ queue (l.servers i) ++ Called c call ∷ []
  full_queue = sym (append_assoc (listed (l.servers i).unpublished) (l.servers i).inbox (Called c call ∷ []))

  -- the call is the open one
  pub call_opened : open_call (with_call w c call a k here seat_lives at_idle (g.rested seat_lives)) ≡ Some call
  call_opened = ap (λ n. slice_get (k.calls ++ call ∷ []) n) (sym all_answered) ∙ get_last k.calls call

  waits : WaitsFor i c (with_call w c call a k here seat_lives at_idle (g.rested seat_lives)) (l.servers i) full
  waits = record {
    node = refl;
    stopped = refl;
    from = λ x. ap (messages_from x) full_queue ∙ messages_from-append x (queue (l.servers i)) (Called c call ∷ [])
        ∙ append-nil (messages_from x (queue (l.servers i)));
    to = λ y. refl;
    calls = λ d other. ap (calls_from d) full_queue ∙ calls_from-append d (queue (l.servers i)) (Called c call ∷ [])
        ∙ ap (λ b. calls_from d (queue (l.servers i)) ++ cond b (call ∷ []) []) (ne_eqb c d (λ f. other (sym f)))
        ∙ append-nil (calls_from d (queue (l.servers i)));
    replies = λ d other. refl;
    own_calls = ap (calls_from c) full_queue ∙ calls_from-append c (queue (l.servers i)) (Called c call ∷ [])
        ∙ ap (λ b. calls_from c (queue (l.servers i)) ++ cond b (call ∷ []) []) (eq-eqb c c refl)
        ∙ ap (λ cs. cs ++ call ∷ []) (h.calls i c going ∙ ap (call_at i) here
        ∙ subst (λ s. cond (k.home == i) (listed (to_work s k)) [] ≡ []) (sym at_idle) (same_both (k.home == i) []))
        ∙ sym (ap (λ o. cond (k.home == i) (listed o) []) call_opened
        ∙ ap (λ b. cond b (call ∷ []) []) (eq-eqb k.home i g.home));
    own_replies = h.replies i c going ∙ ap (reply_at i) here
        ∙ subst (λ s. cond (k.home == i) (listed (waiting_reply s)) [] ≡ []) (sym at_idle) (same_both (k.home == i) [])
        ∙ sym (same_both (k.home == i) []);
    notices = λ j e. elim (in_pushed (queue (l.servers i)) (Called c call) (Gone j)
        (subst (λ q. In (Gone j) q) full_queue e)) [
          | inl old ↦ old
          | inr new ↦ absurd (let no : Gone j ≡ Called c call = new in cc)
        ];
  }

  sits : (v : World)
      → IsSeat v (with_call w c call a k here seat_lives at_idle (g.rested seat_lives))
      (record (l.seats c) { calls = (l.seats c).calls ++ call ∷ [] })
  sits v = record {
    home = g.home;
    replies = g.replies;
    unheard = [];
    calls = ap (λ cs. cs ++ call ∷ []) (all_heard w k (l.seats c) g seat_lives)
        ∙ sym (append-nil (k.calls ++ call ∷ []));
    heard = λ e. refl;
    rested = λ e. rested_after w c call a k here seat_lives at_idle (g.rested seat_lives);
    tallies = length-append k.calls (call ∷ []) ∙ ap (λ n. n + 1) all_answered;
  }

  sends_going : Reaches w (sent l c call (l.seats c))
  sends_going =
      let v = happens (happens w (Piece c a.bytes)) (Begin c) in
      let k' = with_call w c call a k here seat_lives at_idle (g.rested seat_lives) in
      let s' : Seat = record (l.seats c) { calls = (l.seats c).calls ++ call ∷ [] } in
      let all = one_seat l w v c i k k' full s' h here g.home g.home
      (begins_call w c call a k here seat_lives at_idle (g.rested seat_lives)) waits (sits v) in (
        Piece c a.bytes ∷ (Begin c ∷ []),
        omega arith,
        subst (λ b. StandsFor (cond b (with_seat (with_running l i full) c s') l) v)
            (sym free) all,
      )

-- ---- to a server that has stopped

unheard_more : (l m : Chain) (w : World) (o : Option Connection) (s : Seat) (call : Call)
    → ((x : ℕ) → (m.servers x).stopped ≡ (l.servers x).stopped)
    → StandsFor l w
    → (l.servers s.home).stopped ≡ true
    → Sits l w o s
    → Sits m w o (record s { calls = s.calls ++ call ∷ [] })
unheard_more l m w None s call same h over g = record { stopped = same s.home ∙ g.stopped; none = g.none }
unheard_more l m w (Some k) s call same h over g =
    let dead : lives w k.home ≡ false = ap (lives w) g.home ∙ h.lives s.home ∙ ap not over in
    record {
      home = g.home;
      replies = g.replies;
      unheard = g.unheard ++ call ∷ [];
      calls = ap (λ cs. cs ++ call ∷ []) g.calls ∙ append_assoc k.calls g.unheard (call ∷ []);
      heard = λ living. absurd (both_ways _ dead living);
      rested = λ living. absurd (both_ways _ dead living);
      tallies = g.tallies;
    }

sent_passes : (l : Chain) (w : World) (c : ℕ) (call : Call)
    → StandsFor l w
    → (l.servers (l.seats c).home).stopped ≡ true
    → StandsFor (brought (with_seat l c (record (l.seats c) { calls = (l.seats c).calls ++ call ∷ [] }))
    (l.seats c).home (Called c call)) w
sent_passes l w c call h over =
    let i = (l.seats c).home in
    let s : Seat = record (l.seats c) { calls = (l.seats c).calls ++ call ∷ [] } in
    let u : Chain = with_seat l c s in
    let m : Chain = brought u i (Called c call) in
    passes w l m h (record {
      count = refl;
      stopped = brought_stopped u i (Called c call);
      node = brought_node u i (Called c call);
      ways = λ x y. ap (λ os. messages_from x (queue (m.servers y)) ++ (l.channels x y
          ++ messages_to y os)) (brought_outbox u i (Called c call) x)
          ∙ ap (λ ms. ms ++ (l.channels x y ++ messages_to y (l.servers x).outbox))
          (from_brought u i (Called c call) x refl y);
      calls = λ x d e. ap (calls_from d) (queue_apart u i (Called c call) x
          (λ f. both_ways _ e (ap (λ n. (l.servers n).stopped) f ∙ over)));
      replies = λ x d. ap (replies_to d) (brought_outbox u i (Called c call) x);
      notices = λ x j e. elim (in_brought u i (Called c call) x (Gone j) e) [
        | inl old ↦ inl old
        | inr new ↦ absurd (let no : Gone j ≡ Called c call = new in cc)
      ];
      seats = λ d e. elim (cases_eq d c) [
        | inl own ↦ subst (λ x. Sits m w (slice_get w.connections x) (with_at l.seats c s x)) (sym own)
            (subst (λ t. Sits m w (slice_get w.connections c) t) (sym (at_same l.seats c s))
            (unheard_more l m w (slice_get w.connections c) (l.seats c) call
            (brought_stopped u i (Called c call)) h over
            (subst (λ x. Sits l w (slice_get w.connections x) (l.seats x)) own e)))
        | inr other ↦ subst (λ t. Sits m w (slice_get w.connections d) t) (sym (at_other l.seats c s d other))
            (sits_still w l m (brought_stopped u i (Called c call)) (slice_get w.connections d) (l.seats d) e)
      ];
    })

-- ---- the move

-- a seat without a connection is at a server that has stopped
pub away_stopped : (l : Chain) (w : World) (s : Seat) (o : Option Connection)
    → o ≡ None
    → Sits l w o s
    → (l.servers s.home).stopped ≡ true
away_stopped l w s None e g = g.stopped
away_stopped l w s (Some k) e g = absurd cc

sends_by : (l : Chain) (w : World) (c : ℕ) (call : Call)
    → IsSpelled call
    → StandsFor l w
    → (o : Option Connection)
    → slice_get w.connections c ≡ o
    → is_free (l.seats c) ≡ true
    → (l.servers (l.seats c).home).stopped ≡ false
    → Reaches w (sent l c call (l.seats c))
sends_by l w c call a h None here free going =
    absurd (both_ways _ going (away_stopped l w (l.seats c) _ here (h.seats c)))
sends_by l w c call a h (Some k) here free going =
    sends_going l w c call a h free going k here (subst (λ o. Sits l w o (l.seats c)) here (h.seats c))

-- the call is sent
abbrev full_chain : Chain → ℕ → Call → Chain
full_chain l c call =
    brought (with_seat l c (record (l.seats c) { calls = (l.seats c).calls ++ call ∷ [] })) (l.seats c).home
    (Called c call)

-- a send is a piece and a begin, or nothing
pub sends_reach : (l : Chain) (w : World) (c : ℕ) (call : Call)
    → IsSpelled call
    → StandsFor l w
    → Reaches w (done l (Sends c call))
sends_reach l w c call a h = elim (cases_Bool (is_free (l.seats c))) [
  | inr busy ↦ ([], omega arith, subst (λ b. StandsFor (cond b (full_chain l c call) l) w) (sym busy) h)
  | inl free ↦ elim (cases_Bool (l.servers (l.seats c).home).stopped) [
    | inl over ↦ (
      [],
      omega arith,
      subst (λ b. StandsFor (cond b (full_chain l c call) l) w) (sym free)
          (sent_passes l w c call h over),
    )
    | inr going ↦ sends_by l w c call a h (slice_get w.connections c) refl free going
  ]
]
