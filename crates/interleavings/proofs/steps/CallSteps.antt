-- A publish of a call is a work.
use Rattle.std.proofs.Common.{◌≡◌, ◌≢◌, ℕ, ◌<◌, Bool, true, false, cond, List, [], ◌∷◌, length, Option, None, Some}
use Rattle.std.proofs.Common.{refl, inl, inr, ap, sym, ◌∙◌, subst}
use Rattle.std.specs.Prelude.{slice_get, not, ◌==◌}
use Rattle.std.proofs.lemmas.Bool.{cases_eq, eq-eqb, ne_eqb, eqb-true}
use Rattle.table.specs.declared.operations.Call.{Call}
use Rattle.node.specs.declared.messages.Input.{Input}
use Rattle.node.specs.declared.messages.Input.TheVariants.{Call as Called, Gone}
use Rattle.node.specs.Steps.{step}
use Rattle.world.specs.declared.connections.Stage.{Stage}
use Rattle.world.specs.declared.connections.Stage.TheVariants.{Idle, Begun, Asked, Replied}
use Rattle.world.specs.Connections.{Connection, to_work, asked}
use Rattle.world.specs.Waiting.{waiting_reply}
use Rattle.world.specs.Worlds.{World, server, link, lives, with_connection, acted, takes, sent_in, worked, happens}
use Rattle.world.specs.declared.events.Event.TheVariants.{Work}
use Rattle.world.specs.Awaited.{AreAwaited}
use Rattle.world.proofs.trace.IdLaws.{living_parts}
use Rattle.world.proofs.streams.ForwardRuns.{HasLink, has_link-with_connection}
use Rattle.interleavings.specs.Chains.{Seat, Chain, messages_from, calls_from, replies_to}
use Rattle.interleavings.specs.Moves.{Publishes, done}
use Rattle.interleavings.proofs.relation.StandsFor.{IsSeat, Sits, StandsFor, Tallies, call_at, listed, lives_on, queue}
use Rattle.interleavings.proofs.relation.StandsFor.{reply_at}
use Rattle.interleavings.proofs.steps.StepsPublished.{StepIsPublished, freed, publishes_is, step_is_published}
use Rattle.interleavings.proofs.steps.Acting.{acts}
use Rattle.world.proofs.lists.Changed.{changed_other, changed_same}
use Rattle.interleavings.proofs.lists.ChangedFunctions.{same_both}

-- ---- the first of the queue is this call: its connection has begun it

record Waits (c : ℕ) (call : Call) (j : ℕ) (o : Option Connection) : Type 0 where
  connection : Connection
  here : o ≡ Some connection
  home : connection.home ≡ j
  work : to_work connection.stage connection ≡ Some call

listed_is : {X : Type 0} (o : Option X) (x : X) (xs : List X) → listed o ≡ x ∷ xs → (o ≡ Some x) × (xs ≡ [])
listed_is None x xs e = absurd cc
listed_is (Some y) x xs e = (let same : y ≡ x = cc in ap Some same, let none : xs ≡ [] = cc in none)

waits_by : (c : ℕ) (call : Call) (j : ℕ) (k : Connection) (xs : List Call) (b : Bool)
    → (k.home == j) ≡ b
    → cond b (listed (to_work k.stage k)) [] ≡ call ∷ xs
    → Waits c call j (Some k) × (xs ≡ [])
waits_by c call j k xs true is e =
    let p = listed_is (to_work k.stage k) call xs e in
    (record { connection = k; here = refl; home = eqb-true k.home j is; work = p.0 }, p.1)
waits_by c call j k xs false is e = absurd cc

waits : (c : ℕ) (call : Call) (j : ℕ) (xs : List Call) (o : Option Connection)
    → call_at j o ≡ call ∷ xs
    → Waits c call j o × (xs ≡ [])
waits c call j xs None e = absurd cc
waits c call j xs (Some k) e = waits_by c call j k xs (k.home == j) refl e

begun_of : (s : Stage) (k : Connection) (call : Call) → to_work s k ≡ Some call → s ≡ Begun
begun_of Idle k call e = absurd cc
begun_of Begun k call e = refl
begun_of Asked k call e = absurd cc
begun_of (Replied reply) k call e = absurd cc

module _ (l : Chain) (w : World) (i : ℕ) (input : Input) (h : StandsFor l w)
    (going : (l.servers i).stopped ≡ false) (unpublished : (l.servers i).unpublished ≡ Some input) where
  over : StepIsPublished l i input
  over = step_is_published l i input unpublished

  module _ (c : ℕ) (call : Call) (is : input ≡ Called c call) (k : Connection)
      (here : slice_get w.connections c ≡ Some k) (home : k.home ≡ i) (work : to_work k.stage k ≡ Some call)
      (alone : calls_from c (l.servers i).inbox ≡ []) where
    begun : k.stage ≡ Begun
    begun = begun_of k.stage k call work

    here_after : slice_get (with_connection w c asked).connections c ≡ Some (asked k)
    unfolding with_connection
    here_after = changed_same w.connections c asked k here

    other_after : (d : ℕ) → d ≢ c → slice_get (with_connection w c asked).connections d ≡ slice_get w.connections d
    unfolding with_connection
    other_after d other = changed_other w.connections c asked d other

    call_calls : (j d : ℕ)
        → ((freed l i).servers j).stopped ≡ false
        → calls_from d (queue ((freed l i).servers j)) ≡ call_at j (slice_get (with_connection w c asked).connections d)
    call_calls j d e = elim (cases_eq d c) [
      | inl own ↦ rw own (elim (cases_eq j i) [
        | inl at ↦ rw at (ap (calls_from c) over.queue_after ∙ alone
            ∙ sym (ap (call_at i) here_after ∙ same_both (k.home == i) []))
        | inr other ↦ ap (calls_from c) (over.queue_other j other) ∙ h.calls j c (over.went j e) ∙ ap (call_at j) here
            ∙ ap (λ b. cond b (listed (to_work k.stage k)) []) (ne_eqb k.home j (λ f. other (sym f ∙ home)))
            ∙ sym (ap (call_at j) here_after ∙ same_both (k.home == j) [])
      ])
      | inr other ↦ sym (over.calls_kept d (ap (λ p. calls_from d (p ∷ (l.servers i).inbox)) is
          ∙ ap (λ b. cond b (call ∷ calls_from d (l.servers i).inbox) (calls_from d (l.servers i).inbox))
          (ne_eqb c d (λ f. other (sym f)))) j)
          ∙ h.calls j d (over.went j e) ∙ ap (call_at j) (sym (other_after d other))
    ]

    begun_replies : (j : ℕ) → reply_at j (Some k) ≡ []
    begun_replies j = subst (λ s. cond (k.home == j) (listed (waiting_reply s)) [] ≡ []) (sym begun)
        (same_both (k.home == j) [])

    call_replies : (j d : ℕ)
        → ((freed l i).servers j).stopped ≡ false
        → replies_to d ((freed l i).servers j).outbox ≡ reply_at j (slice_get (with_connection w c asked).connections d)
    call_replies j d e = ap (replies_to d) (over.same_outbox j) ∙ h.replies j d (over.went j e) ∙ elim (cases_eq d c) [
      | inl own ↦ rw own (ap (reply_at j) here ∙ begun_replies j
          ∙ sym (ap (reply_at j) here_after ∙ same_both (k.home == j) []))
      | inr other ↦ ap (reply_at j) (sym (other_after d other))
    ]

    sits_asked : (o : Option Connection) (s : Seat) → Sits l w o s → Sits (freed l i) (with_connection w c asked) o s
    unfolding with_connection
    sits_asked None s g = record { stopped = over.same_stopped s.home ∙ g.stopped; none = g.none }
    sits_asked (Some x) s g = record {
      home = g.home;
      replies = g.replies;
      unheard = g.unheard;
      calls = g.calls;
      heard = g.heard;
      rested = g.rested;
      tallies = g.tallies;
    }

    own_sits : (s : Seat) → IsSeat w k s → IsSeat (with_connection w c asked) (asked k) s
    unfolding with_connection
    own_sits s g = record {
      home = g.home;
      replies = g.replies;
      unheard = g.unheard;
      calls = g.calls;
      heard = g.heard;
      rested = g.rested;
      tallies = subst (λ x. Tallies x (length k.calls) (length k.replies)) begun g.tallies;
    }

    call_seats : (d : ℕ)
        → Sits (freed l i) (with_connection w c asked) (slice_get (with_connection w c asked).connections d) (l.seats d)
    call_seats d = elim (cases_eq d c) [
      | inl own ↦ subst (λ x. Sits (freed l i) (with_connection w c asked)
          (slice_get (with_connection w c asked).connections x) (l.seats x)) (sym own)
          (subst (λ o. Sits (freed l i) (with_connection w c asked) o (l.seats c)) (sym here_after)
          (own_sits (l.seats c) (subst (λ o. Sits l w o (l.seats c)) here (h.seats c))))
      | inr other ↦ subst (λ o. Sits (freed l i) (with_connection w c asked) o (l.seats d)) (sym (other_after d other))
          (sits_asked _ (l.seats d) (h.seats d))
    ]

    call_stands : StandsFor (freed l i) (with_connection w c asked)
    unfolding with_connection server link
    call_stands = record {
      count = h.count;
      lives = λ j. h.lives j ∙ ap not (sym (over.same_stopped j));
      servers = λ j e. h.servers j (over.went j e) ∙ sym (over.same_node j);
      links = λ x y e. h.links x y (over.went y e)
          ∙ over.way_kept x y (over.from_kept x (ap (λ p. messages_from x (p ∷ (l.servers i).inbox)) is) y);
      calls = call_calls;
      replies = call_replies;
      notices = λ j x g. (let f = h.notices j x (over.in_after j (Gone x) g) in (f.0, over.same_stopped x ∙ f.1));
      seats = call_seats;
    }

    server_asked : server (with_connection w c asked) i ≡ server w i
    unfolding with_connection server
    server_asked = refl

    within_asked : i < length (with_connection w c asked).servers
    unfolding with_connection
    within_asked = (living_parts w i (lives_on l w i h going)).0

    worked_is : happens w (Work c) ≡ takes (with_connection w c asked) i (Called c call)
    worked_is = ap (worked w c) here
        ∙ ap (λ b. cond b (sent_in w c k.home (to_work k.stage k)) w)
        (subst (λ j. lives w j ≡ true) (sym home) (lives_on l w i h going))
        ∙ ap (sent_in w c k.home) work
        ∙ ap (λ j. takes (with_connection w c asked) j (Called c call)) home

    -- a publish of the call that this connection has begun
    pub publishes_begun : ((y : ℕ) → lives w y ≡ true → HasLink w i y)
        → AreAwaited (with_connection w c asked).connections i
        (step (server (with_connection w c asked) i) (Called c call)).outputs
        → StandsFor (done l (Publishes i)) (happens w (Work c))
    publishes_begun joined awaited =
        let a = step (l.servers i).node input in
        let taken : step (server (with_connection w c asked) i) (Called c call) ≡ a =
        ap (λ s. step s (Called c call)) (server_asked ∙ h.servers i going) ∙ ap (step (l.servers i).node) (sym is) in
        let event : happens w (Work c) ≡ acted (with_connection w c asked) i a =
        worked_is ∙ ap (acted (with_connection w c asked) i) taken in
        rw (publishes_is l i input unpublished going, event) (
        acts (freed l i) (with_connection w c asked) i a call_stands (over.same_stopped i ∙ going) within_asked
        (λ y e. has_link-with_connection w c asked i y (joined y (h.lives y ∙ ap not (over.went y e))))
        (subst (λ o. AreAwaited (with_connection w c asked).connections i o.outputs) taken awaited)
        )

  -- a publish of it is a work
  pub publishes_call : (c : ℕ) (call : Call)
      → input ≡ Called c call
      → ((y : ℕ) → lives w y ≡ true → HasLink w i y)
      → ((k : Connection) → slice_get w.connections c ≡ Some k → k.home ≡ i → to_work k.stage k ≡ Some call
      → AreAwaited (with_connection w c asked).connections i
      (step (server (with_connection w c asked) i) (Called c call)).outputs)
      → StandsFor (done l (Publishes i)) (happens w (Work c))
  publishes_call c call is joined awaited =
      let first : calls_from c (queue (l.servers i)) ≡ call ∷ calls_from c (l.servers i).inbox =
      ap (calls_from c) over.queue_before ∙ ap (λ p. calls_from c (p ∷ (l.servers i).inbox)) is
      ∙ ap (λ b. cond b (call ∷ calls_from c (l.servers i).inbox) (calls_from c (l.servers i).inbox))
      (eq-eqb c c refl) in
      let f = waits c call i (calls_from c (l.servers i).inbox) (slice_get w.connections c)
      (sym (h.calls i c going) ∙ first) in
      publishes_begun c call is f.0.connection f.0.here f.0.home f.0.work f.1 joined
      (awaited f.0.connection f.0.here f.0.home f.0.work)
