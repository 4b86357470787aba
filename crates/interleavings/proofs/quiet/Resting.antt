-- The world that stands for a quiet chain is at rest, whatever stands in seats' queues.
use Rattle.std.proofs.Common.{◌≡◌, ℕ, ◌<◌, Bool, true, false, cond, [], ◌++◌, length, Option, None, Some}
use Rattle.std.proofs.Common.{refl, arith, ap, sym, ◌∙◌, subst, inl, inr, eq-eqb}
use Rattle.std.specs.Prelude.{slice_get, not, nat_lt, ◌&&◌, ◌==◌}
use Rattle.std.proofs.lemmas.Bool.{cases_Bool, and_from, both_ways, lt-ltb, not-true, not-false, not_from_false}
use Rattle.node.specs.Views.{has}
use Rattle.world.specs.declared.connections.Stage.{Stage}
use Rattle.world.specs.declared.connections.Stage.TheVariants.{Idle, Begun, Asked, Replied}
use Rattle.world.specs.Connections.{Connection, to_work}
use Rattle.world.specs.Quiet.{waits}
use Rattle.world.specs.Waiting.{waiting_reply}
use Rattle.world.specs.Worlds.{World, server, link, lives}
use Rattle.node.proofs.BegunLists.{found_below}
use Rattle.world.proofs.trace.IdLaws.{living_parts}
use Rattle.world.proofs.waiting.NoneForgotten.{IsResting}
use Rattle.interleavings.specs.Chains.{Chain, messages_from, messages_to, calls_from}
use Rattle.interleavings.specs.Moves.{has_stopped}
use Rattle.interleavings.specs.Quiet.{goes_on}
use Rattle.interleavings.specs.Pools.{HasNothingLeft}
use Rattle.interleavings.proofs.relation.StandsFor.{listed, queue, call_at, reply_at, Tallies, Sits, StandsFor}

no_more : (b : Bool) → (b && false) ≡ false
no_more true = refl
no_more false = refl

some_listed : {X : Type 0} (o : Option X) (x : X) → o ≡ Some x → listed o ≡ [] → ⊥
some_listed None x e f = absurd cc
some_listed (Some y) x e f = absurd cc

-- no call waits for its server, and no reply for its seat
not_waiting : (s : Stage) (k : Connection)
    → Tallies s (length k.calls) (length k.replies)
    → listed (to_work s k) ≡ []
    → listed (waiting_reply s) ≡ []
    → waits s ≡ false
not_waiting Idle k t e f = refl
not_waiting Asked k t e f = refl
not_waiting Begun k t e f =
    absurd (let g = found_below k.calls (length k.replies) (omega (arith, t)) in
    some_listed (slice_get k.calls (length k.replies)) g.0 g.1 e)
not_waiting (Replied reply) k t e f = absurd cc

-- what a server that has stopped says of the world
stopped_by : (n k : ℕ) (failed stopped : Bool)
    → (nat_lt k n && not failed) ≡ not stopped
    → failed ≡ true
    → stopped ≡ true
stopped_by n k failed stopped e f =
    not-false stopped (sym e ∙ ap (λ b. nat_lt k n && not b) f ∙ no_more (nat_lt k n))

module _ (l : Chain) (w : World) (h : StandsFor l w) (q : HasNothingLeft l)
    (named : (i k : ℕ) → i < length w.servers → has (server w i).view k ≡ true → has w.failed k ≡ true) where
  going : (i : ℕ) → lives w i ≡ true → (l.servers i).stopped ≡ false
  going i a = not-true _ (sym (h.lives i) ∙ a)

  on : (i : ℕ) → lives w i ≡ true → goes_on l i ≡ true
  on i a = and_from _ _ (lt-ltb _ _ (subst (λ n. i < n) (sym h.count) (living_parts w i a).0))
      (not_from_false _ (going i a))

  nothing_queued : (i : ℕ) → lives w i ≡ true → queue (l.servers i) ≡ []
  nothing_queued i a = ap (λ t. listed t ++ (l.servers i).inbox) (q.all_published i (on i a)) ∙ q.inboxes i (on i a)

  -- nothing is on a link between living servers
  nothing_linked : (i j : ℕ) → lives w i ≡ true → lives w j ≡ true → link w i j ≡ []
  nothing_linked i j a b = h.links i j (going j b)
      ∙ ap (λ xs. messages_from i xs ++ (l.channels i j ++ messages_to j (l.servers i).outbox)) (nothing_queued j b)
      ∙ ap (λ ms. ms ++ messages_to j (l.servers i).outbox) (q.channels i j (on i a) (on j b))
      ∙ q.messages i j (on i a) (on j b)

  -- each living server knows who has failed
  knows : (j k : ℕ) → lives w j ≡ true → k < length w.servers → has (server w j).view k ≡ has w.failed k
  knows j k a within = elim (cases_Bool (has w.failed k)) [
    | inl failed ↦
        let over = stopped_by (length w.servers) k (has w.failed k) (l.servers k).stopped (h.lives k) failed in
        let there : has_stopped l k ≡ true =
        and_from _ _ (lt-ltb _ _ (subst (λ n. k < n) (sym h.count) within)) over in
        ap (λ s. has s.view k) (h.servers j (going j a)) ∙ q.views j k (on j a) there ∙ sym failed
    | inr alive ↦ elim (cases_Bool (has (server w j).view k)) [
      | inl known ↦ absurd (both_ways _ alive (named j k (living_parts w j a).0 known))
      | inr unknown ↦ unknown ∙ sym alive
    ]
  ]

  idle_at : (c : ℕ) (k : Connection)
      → slice_get w.connections c ≡ Some k
      → lives w k.home ≡ true
      → waits k.stage ≡ false
  idle_at c k here a =
      let i = k.home in
      let at_home : (i == i) ≡ true = eq-eqb i i refl in
      not_waiting k.stage k
      (subst (λ o. Sits l w o (l.seats c)) here (h.seats c)).tallies
      (sym (ap (λ b. cond b (listed (to_work k.stage k)) []) at_home) ∙ sym (ap (call_at i) here)
      ∙ sym (h.calls i c (going i a)) ∙ ap (calls_from c) (nothing_queued i a))
      (sym (ap (λ b. cond b (listed (waiting_reply k.stage)) []) at_home) ∙ sym (ap (reply_at i) here)
      ∙ sym (h.replies i c (going i a)) ∙ q.replies i c (on i a))

  -- so it is at rest
  pub resting : IsResting w
  resting = record {
    servers = record { links = nothing_linked; views = knows };
    connections = idle_at;
  }
