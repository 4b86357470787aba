-- A publish of a notice is a tell.
use Rattle.std.proofs.Common.{◌≡◌, ℕ, true, false, cond, ◌∷◌, length, Some, refl, ap, sym, ◌∙◌, subst}
use Rattle.std.specs.Prelude.{not, nat_lt, ◌&&◌}
use Rattle.std.proofs.lemmas.Bool.{lt-ltb, not-false, and_from}
use Rattle.node.specs.declared.messages.Input.{Input}
use Rattle.node.specs.declared.messages.Input.TheVariants.{Gone}
use Rattle.node.specs.Steps.{step}
use Rattle.node.specs.Views.{has}
use Rattle.world.specs.Worlds.{World, server, lives, has_failed, acted, takes, happens}
use Rattle.world.specs.declared.events.Event.TheVariants.{Tell}
use Rattle.world.specs.Awaited.{AreAwaited}
use Rattle.world.proofs.trace.IdLaws.{living_parts}
use Rattle.world.proofs.streams.ForwardRuns.{HasLink}
use Rattle.interleavings.specs.Chains.{Chain, messages_from, calls_from, replies_to}
use Rattle.interleavings.specs.Moves.{Publishes, done}
use Rattle.interleavings.proofs.relation.StandsFor.{StandsFor, lives_on, sits_still}
use Rattle.interleavings.proofs.steps.StepsPublished.{StepIsPublished, freed, publishes_is, step_is_published}
use Rattle.interleavings.proofs.steps.Acting.{acts}

module _ (l : Chain) (w : World) (i : ℕ) (input : Input) (h : StandsFor l w)
    (going : (l.servers i).stopped ≡ false) (unpublished : (l.servers i).unpublished ≡ Some input) where
  over : StepIsPublished l i input
  over = step_is_published l i input unpublished

  -- nothing changes before the step
  notice_stands : (j : ℕ) → input ≡ Gone j → StandsFor (freed l i) w
  notice_stands j is = record {
    count = h.count;
    lives = λ k. h.lives k ∙ ap not (sym (over.same_stopped k));
    servers = λ k e. h.servers k (over.went k e) ∙ sym (over.same_node k);
    links = λ x y e. h.links x y (over.went y e)
        ∙ over.way_kept x y (over.from_kept x (ap (λ p. messages_from x (p ∷ (l.servers i).inbox)) is) y);
    calls = λ k c e. sym (over.calls_kept c (ap (λ p. calls_from c (p ∷ (l.servers i).inbox)) is) k)
        ∙ h.calls k c (over.went k e);
    replies = λ k c e. ap (replies_to c) (over.same_outbox k) ∙ h.replies k c (over.went k e);
    notices = λ k x g. (let f = h.notices k x (over.in_after k (Gone x) g) in (f.0, over.same_stopped x ∙ f.1));
    seats = λ c. sits_still w l (freed l i) over.same_stopped _ (l.seats c) (h.seats c);
  }

  -- who is named has failed
  pub named_failed : (j : ℕ) → input ≡ Gone j → has_failed w j ≡ true
  named_failed j is =
      let g = h.notices i j (rw (over.queue_before, is) (0, refl)) in
      let below : nat_lt j (length w.servers) ≡ true = lt-ltb j (length w.servers) (rw h.count at g.0) in
      let dead : lives w j ≡ false = h.lives j ∙ ap not g.1 in
      and_from _ _ below (not-false _ (ap (λ b. b && not (has w.failed j)) (sym below) ∙ dead))

  -- a publish of it is a tell
  pub publishes_notice : (j : ℕ)
      → input ≡ Gone j
      → ((y : ℕ) → lives w y ≡ true → HasLink w i y)
      → AreAwaited w.connections i (step (server w i) (Gone j)).outputs
      → StandsFor (done l (Publishes i)) (happens w (Tell i j))
  publishes_notice j is joined awaited =
      let a = step (l.servers i).node input in
      let same : step (server w i) (Gone j) ≡ a =
      ap (λ s. step s (Gone j)) (h.servers i going) ∙ ap (step (l.servers i).node) (sym is) in
      let event : happens w (Tell i j) ≡ acted w i a =
      ap (λ b. cond b (takes w i (Gone j)) w) (and_from _ _ (lives_on l w i h going) (named_failed j is))
      ∙ ap (acted w i) same in
      rw (publishes_is l i input unpublished going, event) (
      acts (freed l i) w i a (notice_stands j is) (over.same_stopped i ∙ going)
      (living_parts w i (lives_on l w i h going)).0
      (λ y e. joined y (h.lives y ∙ ap not (over.went y e)))
      (subst (λ o. AreAwaited w.connections i o.outputs) same awaited)
      )
