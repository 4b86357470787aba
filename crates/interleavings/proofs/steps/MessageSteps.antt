-- A publish of a message is a deliver.
use Rattle.std.proofs.Common.{◌≡◌, ◌≢◌, ℕ, ◌<◌, true, false, cond, List, ◌∷◌, ◌++◌, length, Option, None, Some, refl}
use Rattle.std.proofs.Common.{inl, inr, ap, sym, ◌∙◌, subst}
use Rattle.std.specs.Prelude.{not}
use Rattle.std.proofs.lemmas.Bool.{cases_eq, eq-eqb, ne_eqb}
use Rattle.node.specs.declared.messages.Peer.{Peer}
use Rattle.node.specs.declared.messages.Input.{Input}
use Rattle.node.specs.declared.messages.Input.TheVariants.{From, Gone}
use Rattle.node.specs.declared.messages.Output.{Output}
use Rattle.node.specs.Steps.{step}
use Rattle.world.specs.Connections.{Connection}
use Rattle.world.specs.Worlds.{World, server, link, lives, with_link, acted, takes, delivered, happens}
use Rattle.world.specs.declared.events.Event.TheVariants.{Deliver}
use Rattle.world.specs.Awaited.{AreAwaited}
use Rattle.world.proofs.trace.WorldLaws.{link_cases}
use Rattle.world.proofs.trace.IdLaws.{living_parts}
use Rattle.world.proofs.streams.ForwardRuns.{HasLink, same_link, has_link-with_link}
use Rattle.interleavings.specs.Chains.{Seat, Chain, messages_from, messages_to, calls_from, replies_to}
use Rattle.interleavings.specs.Moves.{Publishes, done}
use Rattle.interleavings.proofs.relation.StandsFor.{Sits, StandsFor, lives_on, queue, sits_still, under_way}
use Rattle.interleavings.proofs.steps.StepsPublished.{StepIsPublished, freed, publishes_is, step_is_published}
use Rattle.interleavings.proofs.steps.Acting.{acts}

module _ (l : Chain) (w : World) (i : ℕ) (input : Input) (h : StandsFor l w)
    (going : (l.servers i).stopped ≡ false) (unpublished : (l.servers i).unpublished ≡ Some input) where
  over : StepIsPublished l i input
  over = step_is_published l i input unpublished

  way_other : (x y : ℕ) → y ≢ i → under_way l x y ≡ under_way (freed l i) x y
  way_other x y other = over.way_kept x y (ap (messages_from x) (sym (over.queue_other y other)))

  -- the message is the first on its way
  pub way_first : (j : ℕ) (m : Peer) → input ≡ From j m → under_way l j i ≡ m ∷ under_way (freed l i) j i
  way_first j m is =
      let rest = l.channels j i ++ messages_to i (l.servers j).outbox in
      ap (λ ms. ms ++ rest) (ap (messages_from j) over.queue_before
      ∙ ap (λ p. messages_from j (p ∷ (l.servers i).inbox)) is
      ∙ ap (λ b. cond b (m ∷ messages_from j (l.servers i).inbox) (messages_from j (l.servers i).inbox))
      (eq-eqb j j refl)
      ∙ ap (λ q. m ∷ messages_from j q) (sym over.queue_after))
      ∙ ap (λ os. m ∷ (messages_from j (queue ((freed l i).servers i)) ++ (l.channels j i ++ messages_to i os)))
      (sym (over.same_outbox j))

  message_links : (j : ℕ) (m : Peer)
      → input ≡ From j m
      → HasLink w j i
      → (x y : ℕ)
      → (l.servers y).stopped ≡ false
      → link (with_link w j i (under_way (freed l i) j i)) x y ≡ under_way (freed l i) x y
  message_links j m is there x y e = elim (cases_eq y i) [
    | inl at ↦ elim (cases_eq x j) [
      | inl from ↦ rw (at, from) (same_link w j i (under_way (freed l i) j i) there)
      | inr other ↦ elim (link_cases w j i x y (under_way (freed l i) j i)) [
        | inl c ↦ absurd (other c.0)
        | inr same ↦ same ∙ h.links x y e ∙ over.way_kept x y (over.from_kept x (
            ap (λ p. messages_from x (p ∷ (l.servers i).inbox)) is
            ∙ ap (λ b. cond b (m ∷ messages_from x (l.servers i).inbox) (messages_from x (l.servers i).inbox))
            (ne_eqb j x (λ f. other (sym f)))) y)
      ]
    ]
    | inr other ↦ elim (link_cases w j i x y (under_way (freed l i) j i)) [
      | inl c ↦ absurd (other c.1)
      | inr same ↦ same ∙ h.links x y e ∙ way_other x y other
    ]
  ]

  sits_linked : (j : ℕ) (ms : List Peer) (o : Option Connection) (s : Seat)
      → Sits (freed l i) w o s
      → Sits (freed l i) (with_link w j i ms) o s
  unfolding with_link
  sits_linked j ms None s g = record { stopped = g.stopped; none = g.none }
  sits_linked j ms (Some k) s g = record {
    home = g.home;
    replies = g.replies;
    unheard = g.unheard;
    calls = g.calls;
    heard = g.heard;
    rested = g.rested;
    tallies = g.tallies;
  }

  message_stands : (j : ℕ) (m : Peer)
      → input ≡ From j m
      → HasLink w j i
      → StandsFor (freed l i) (with_link w j i (under_way (freed l i) j i))
  unfolding with_link server
  message_stands j m is there = record {
    count = h.count;
    lives = λ k. h.lives k ∙ ap not (sym (over.same_stopped k));
    servers = λ k e. h.servers k (over.went k e) ∙ sym (over.same_node k);
    links = λ x y e. message_links j m is there x y (over.went y e);
    calls = λ k c e. sym (over.calls_kept c (ap (λ p. calls_from c (p ∷ (l.servers i).inbox)) is) k)
        ∙ h.calls k c (over.went k e);
    replies = λ k c e. ap (replies_to c) (over.same_outbox k) ∙ h.replies k c (over.went k e);
    notices = λ k x g. (let f = h.notices k x (over.in_after k (Gone x) g) in (f.0, over.same_stopped x ∙ f.1));
    seats = λ c. sits_linked j (under_way (freed l i) j i) _ (l.seats c)
        (sits_still w l (freed l i) over.same_stopped _ (l.seats c) (h.seats c));
  }

  server_linked : (j : ℕ) (ms : List Peer) → server (with_link w j i ms) i ≡ server w i
  unfolding with_link server
  server_linked j ms = refl

  awaited_linked : (j : ℕ) (ms : List Peer) (os : List Output)
      → AreAwaited w.connections i os
      → AreAwaited (with_link w j i ms).connections i os
  unfolding with_link
  awaited_linked j ms os a = a

  within_linked : (j : ℕ) (ms : List Peer) → i < length (with_link w j i ms).servers
  unfolding with_link
  within_linked j ms = (living_parts w i (lives_on l w i h going)).0

  -- a publish of it is a deliver
  pub publishes_message : (j : ℕ) (m : Peer)
      → input ≡ From j m
      → HasLink w j i
      → ((y : ℕ) → lives w y ≡ true → HasLink w i y)
      → AreAwaited w.connections i (step (server w i) (From j m)).outputs
      → StandsFor (done l (Publishes i)) (happens w (Deliver j i))
  publishes_message j m is there joined awaited =
      let a = step (l.servers i).node input in
      let rest = under_way (freed l i) j i in
      let v = with_link w j i rest in
      let same : step (server w i) (From j m) ≡ a =
      ap (λ s. step s (From j m)) (h.servers i going) ∙ ap (step (l.servers i).node) (sym is) in
      let taken : step (server v i) (From j m) ≡ a = ap (λ s. step s (From j m)) (server_linked j rest) ∙ same in
      let event : happens w (Deliver j i) ≡ acted v i a =
      ap (delivered w j i) (h.links j i going ∙ way_first j m is)
      ∙ ap (λ b. cond b (takes v i (From j m)) w) (lives_on l w i h going) ∙ ap (acted v i) taken in
      rw (publishes_is l i input unpublished going, event) (
      acts (freed l i) v i a (message_stands j m is there) (over.same_stopped i ∙ going) (within_linked j rest)
      (λ y e. has_link-with_link w j i i y rest (joined y (h.lives y ∙ ap not (over.went y e))))
      (awaited_linked j rest a.outputs (subst (λ o. AreAwaited w.connections i o.outputs) same awaited))
      )
