-- A message comes off a channel into an inbox.
use Rattle.std.proofs.Common.{◌≡◌, ◌≢◌, ℕ, cond, List, [], ◌∷◌, ◌++◌, refl, ap, sym, ◌∙◌, inl, inr, append_assoc}
use Rattle.std.proofs.lemmas.Bool.{cases_eq, eq-eqb, ne_eqb}
use Rattle.node.specs.declared.messages.Peer.{Peer}
use Rattle.node.specs.declared.messages.Input.TheVariants.{From, Gone}
use Rattle.world.specs.Worlds.{World}
use Rattle.interleavings.specs.Chains.{Chain, with_at, with_channel, messages_from, messages_to, replies_to}
use Rattle.interleavings.specs.Moves.{Arrives, arrived, brought, done}
use Rattle.interleavings.proofs.passing.Passes.{Passes, passes}
use Rattle.interleavings.proofs.relation.StandsFor.{StandsFor, queue, sits_still, under_way}
use Rattle.interleavings.proofs.lists.ChangedFunctions.{at_other, at_same}
use Rattle.interleavings.proofs.passing.Inboxes.{brought_node, brought_outbox, brought_stopped, calls_brought}
use Rattle.interleavings.proofs.passing.Inboxes.{from_brought, in_brought, queue_apart, queue_brought}
use Rattle.interleavings.proofs.lists.Joined.{messages_from-append}

module _ (l : Chain) (w : World) (i j : ℕ) (h : StandsFor l w) (m : Peer) (ms : List Peer)
    (first : l.channels i j ≡ m ∷ ms) where
  abbrev off : Chain
  off = with_channel l i j ms

  abbrev came : Chain
  came = brought (with_channel l i j ms) j (From i m)

  channel_there : off.channels i j ≡ ms
  channel_there = ap (λ row. row j) (at_same l.channels i (with_at (l.channels i) j ms)) ∙ at_same (l.channels i) j ms

  channel_next : (y : ℕ) → y ≢ j → off.channels i y ≡ l.channels i y
  channel_next y other = ap (λ row. row y) (at_same l.channels i (with_at (l.channels i) j ms))
      ∙ at_other (l.channels i) j ms y other

  channel_else : (x y : ℕ) → x ≢ i → off.channels x y ≡ l.channels x y
  channel_else x y other = ap (λ row. row y) (at_other l.channels i (with_at (l.channels i) j ms) x other)

  -- queue and channel, together
  front_same : (x y : ℕ)
      → messages_from x (queue (came.servers y)) ++ (off.channels x y ++ messages_to y (l.servers x).outbox)
      ≡ under_way l x y
  front_same x y = elim (cases_eq x i) [
    | inl own ↦ rw own (elim (cases_eq y j) [
      | inl at ↦ rw at (
          let zs = messages_to j (l.servers i).outbox in
          let qs = messages_from i (queue (l.servers j)) in
          let mine : messages_from i (From i m ∷ []) ≡ m ∷ [] = ap (λ b. cond b (m ∷ []) []) (eq-eqb i i refl) in
          ap (λ q. q ++ (off.channels i j ++ zs)) (
          ap (messages_from i) (queue_brought off j (From i m))
          ∙ messages_from-append i (queue (l.servers j)) (From i m ∷ [])
          ∙ ap (λ ns. qs ++ ns) mine
          )
          ∙ ap (λ ns. (qs ++ m ∷ []) ++ (ns ++ zs)) channel_there
          ∙ append_assoc qs (m ∷ []) (ms ++ zs)
          ∙ ap (λ ns. qs ++ (ns ++ zs)) (sym first)
          )
      | inr other ↦
          ap (λ q. messages_from i q ++ (off.channels i y ++ messages_to y (l.servers i).outbox))
          (queue_apart off j (From i m) y other)
          ∙ ap (λ ns. messages_from i (queue (l.servers y)) ++ (ns ++ messages_to y (l.servers i).outbox))
          (channel_next y other)
    ])
    | inr other ↦
        let none : messages_from x (From i m ∷ []) ≡ [] =
        ap (λ b. cond b (m ∷ []) []) (ne_eqb i x (λ f. other (sym f))) in
        ap (λ q. q ++ (off.channels x y ++ messages_to y (l.servers x).outbox)) (from_brought off j (From i m) x none y)
        ∙ ap (λ ns. messages_from x (queue (l.servers y)) ++ (ns ++ messages_to y (l.servers x).outbox))
        (channel_else x y other)
  ]

  came_passes : Passes w l came
  came_passes = record {
    count = refl;
    stopped = brought_stopped off j (From i m);
    node = brought_node off j (From i m);
    ways = λ x y. ap (λ os. messages_from x (queue (came.servers y)) ++ (off.channels x y ++ messages_to y os))
        (brought_outbox off j (From i m) x) ∙ front_same x y;
    calls = λ k c e. calls_brought off j (From i m) c refl k;
    replies = λ k c. ap (replies_to c) (brought_outbox off j (From i m) k);
    notices = λ k x g. elim (in_brought off j (From i m) k (Gone x) g) [
      | inl old ↦ inl old
      | inr new ↦ absurd (let no : Gone x ≡ From i m = new in cc)
    ];
    seats = λ c g. sits_still w l came (brought_stopped off j (From i m)) _ (l.seats c) g;
  }

arrived_stands : (l : Chain) (w : World) (i j : ℕ)
    → StandsFor l w
    → (ms : List Peer)
    → l.channels i j ≡ ms
    → StandsFor (arrived l i j ms) w
arrived_stands l w i j h [] first = h
arrived_stands l w i j h (m ∷ ms) first = passes w l _ h (came_passes l w i j h m ms first)

-- a message arrives: no event
pub arrives_stands : (l : Chain) (w : World) (i j : ℕ) → StandsFor l w → StandsFor (done l (Arrives i j)) w
arrives_stands l w i j h = arrived_stands l w i j h (l.channels i j) refl
