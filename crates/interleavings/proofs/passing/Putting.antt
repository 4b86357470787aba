-- A message is put onto a channel.
use Rattle.std.proofs.Common.{◌≡◌, ◌≢◌, ℕ, List, [], ◌∷◌, ◌++◌, refl, ap, sym, ◌∙◌, subst, inl, inr, append_assoc}
use Rattle.std.proofs.lemmas.Bool.{cases_eq, cond_both}
use Rattle.node.specs.declared.messages.Peer.{Peer}
use Rattle.node.specs.declared.messages.Input.TheVariants.{Gone}
use Rattle.node.proofs.Lists.{In}
use Rattle.world.specs.Worlds.{World}
use Rattle.interleavings.specs.Chains.{RunningServer, Chain, with_at, with_running, with_channel, messages_from}
use Rattle.interleavings.specs.Chains.{messages_to, without_message, calls_from, replies_to}
use Rattle.interleavings.specs.Moves.{Puts, put, done}
use Rattle.interleavings.proofs.passing.Passes.{Passes, passes}
use Rattle.interleavings.proofs.relation.StandsFor.{StandsFor, queue, sits_still}
use Rattle.interleavings.proofs.lists.ChangedFunctions.{at_other, at_same, kept_at}
use Rattle.interleavings.proofs.lists.Removed.{messages_without_first, others_without_message, replies_without_message}

module _ (l : Chain) (w : World) (i j : ℕ) (h : StandsFor l w) (m : Peer) (ms : List Peer)
    (first : messages_to j (l.servers i).outbox ≡ m ∷ ms) where
  abbrev without : RunningServer
  without = record (l.servers i) { outbox = without_message j (l.servers i).outbox }

  abbrev after : Chain
  after = with_channel (with_running l i without) i j (l.channels i j ++ m ∷ [])

  same_queue : (k : ℕ) → queue (after.servers k) ≡ queue (l.servers k)
  same_queue k = kept_at queue l.servers i without refl k

  same_stopped : (k : ℕ) → (after.servers k).stopped ≡ (l.servers k).stopped
  same_stopped k = kept_at (λ s. s.stopped) l.servers i without refl k

  channel_here : after.channels i j ≡ l.channels i j ++ m ∷ []
  channel_here = ap (λ row. row j) (at_same l.channels i (with_at (l.channels i) j (l.channels i j ++ m ∷ [])))
      ∙ at_same (l.channels i) j (l.channels i j ++ m ∷ [])

  channel_beside : (y : ℕ) → y ≢ j → after.channels i y ≡ l.channels i y
  channel_beside y other = ap (λ row. row y) (at_same l.channels i
      (with_at (l.channels i) j (l.channels i j ++ m ∷ [])))
      ∙ at_other (l.channels i) j (l.channels i j ++ m ∷ []) y other

  channel_apart : (x y : ℕ) → x ≢ i → after.channels x y ≡ l.channels x y
  channel_apart x y other = ap (λ row. row y) (at_other l.channels i
      (with_at (l.channels i) j (l.channels i j ++ m ∷ [])) x other)

  -- channel and what is left, together
  rest_same : (x y : ℕ)
      → after.channels x y ++ messages_to y (after.servers x).outbox ≡ l.channels x y
      ++ messages_to y (l.servers x).outbox
  rest_same x y = elim (cases_eq x i) [
    | inl own ↦ rw own (elim (cases_eq y j) [
      | inl at ↦ rw at (
          ap (λ (s : RunningServer). after.channels i j ++ messages_to j s.outbox) (at_same l.servers i without)
          ∙ ap (λ ns. ns ++ messages_to j (without_message j (l.servers i).outbox)) channel_here
          ∙ ap (λ ns. (l.channels i j ++ m ∷ []) ++ ns) (messages_without_first j (l.servers i).outbox m ms first)
          ∙ append_assoc (l.channels i j) (m ∷ []) ms
          ∙ ap (λ ns. l.channels i j ++ ns) (sym first)
          )
      | inr other ↦
          ap (λ (s : RunningServer). after.channels i y ++ messages_to y s.outbox) (at_same l.servers i without)
          ∙ ap (λ ns. ns ++ messages_to y (without_message j (l.servers i).outbox)) (channel_beside y other)
          ∙ ap (λ ns. l.channels i y ++ ns) (others_without_message j y (l.servers i).outbox other)
    ])
    | inr other ↦
        ap (λ (s : RunningServer). after.channels x y ++ messages_to y s.outbox) (at_other l.servers i without x other)
        ∙ ap (λ ns. ns ++ messages_to y (l.servers x).outbox) (channel_apart x y other)
  ]

  put_passes : Passes w l after
  put_passes = record {
    count = refl;
    stopped = same_stopped;
    node = λ k. kept_at (λ s. s.node) l.servers i without refl k;
    ways = λ x y. ap (λ q. messages_from x q ++ (after.channels x y ++ messages_to y (after.servers x).outbox))
        (same_queue y)
        ∙ ap (λ ns. messages_from x (queue (l.servers y)) ++ ns) (rest_same x y);
    calls = λ k c e. ap (calls_from c) (same_queue k);
    replies = λ k c. kept_at (λ s. replies_to c s.outbox) l.servers i without
        (replies_without_message j c (l.servers i).outbox) k;
    notices = λ k x g. inl (subst (λ q. In (Gone x) q) (same_queue k) g);
    seats = λ c g. sits_still w l after same_stopped _ (l.seats c) g;
  }

put_stands : (l : Chain) (w : World) (i j : ℕ)
    → StandsFor l w
    → (ms : List Peer)
    → messages_to j (l.servers i).outbox ≡ ms
    → StandsFor (put l i j ms) w
put_stands l w i j h [] first = h
put_stands l w i j h (m ∷ ms) first = passes w l _ h (put_passes l w i j h m ms first)

-- a message is put: no event
pub puts_stands : (l : Chain) (w : World) (i j : ℕ) → StandsFor l w → StandsFor (done l (Puts i j)) w
puts_stands l w i j h =
    cond_both (l.servers i).stopped l (put l i j (messages_to j (l.servers i).outbox)) (λ m. StandsFor m w)
    (λ t. h) (λ f. put_stands l w i j h (messages_to j (l.servers i).outbox) refl)
