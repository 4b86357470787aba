-- The notice that a server has stopped comes into an inbox.
use Rattle.std.proofs.Common.{◌≡◌, ℕ, true, ◌++◌, refl, ap, ◌∙◌, inl, inr}
use Rattle.std.specs.Prelude.{nat_lt}
use Rattle.std.proofs.lemmas.Bool.{cond_both, and_parts, ltb-true}
use Rattle.node.specs.declared.messages.Input.{Input}
use Rattle.node.specs.declared.messages.Input.TheVariants.{Gone}
use Rattle.world.specs.Worlds.{World}
use Rattle.interleavings.specs.Chains.{Chain, messages_from, messages_to, replies_to}
use Rattle.interleavings.specs.Moves.{Notices, brought, has_stopped, done}
use Rattle.interleavings.proofs.relation.StandsFor.{StandsFor, queue, sits_still}
use Rattle.interleavings.proofs.passing.Inboxes.{brought_node, brought_outbox, brought_stopped, calls_brought}
use Rattle.interleavings.proofs.passing.Inboxes.{from_brought, in_brought}
use Rattle.interleavings.proofs.passing.Passes.{passes}

gone_same : (x j : ℕ) → ◌≡◌ {A = Input} (Gone x) (Gone j) → x ≡ j
gone_same x j e = cc

noticed : (l : Chain) (w : World) (i j : ℕ)
    → StandsFor l w
    → has_stopped l j ≡ true
    → StandsFor (brought l i (Gone j)) w
noticed l w i j h stopped =
    let p = and_parts (nat_lt j l.count) (l.servers j).stopped stopped in
    passes w l _ h (record {
      count = refl;
      stopped = brought_stopped l i (Gone j);
      node = brought_node l i (Gone j);
      ways = λ x y. ap (λ os. messages_from x (queue ((brought l i (Gone j)).servers y))
          ++ (l.channels x y ++ messages_to y os))
          (brought_outbox l i (Gone j) x)
          ∙ ap (λ ms. ms ++ (l.channels x y ++ messages_to y (l.servers x).outbox))
          (from_brought l i (Gone j) x refl y);
      calls = λ k c e. calls_brought l i (Gone j) c refl k;
      replies = λ k c. ap (replies_to c) (brought_outbox l i (Gone j) k);
      notices = λ k x g. elim (in_brought l i (Gone j) k (Gone x) g) [
        | inl old ↦ inl old
        | inr new ↦ inr (
            let same : x ≡ j = gone_same x j new in
            rw same (ltb-true j l.count p.0, p.1)
            )
      ];
      seats = λ c g. sits_still w l _ (brought_stopped l i (Gone j)) _ (l.seats c) g;
    })

-- a notice is brought: no event
pub notices_stands : (l : Chain) (w : World) (i j : ℕ) → StandsFor l w → StandsFor (done l (Notices i j)) w
notices_stands l w i j h =
    cond_both (has_stopped l j) (brought l i (Gone j)) l (λ m. StandsFor m w) (noticed l w i j h) (λ f. h)
