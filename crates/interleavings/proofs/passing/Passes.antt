-- Something was passed on: what is on its way stays the same.
use Rattle.std.proofs.Common.{◌≡◌, ℕ, ◌<◌, true, false, ap, sym, ◌∙◌, subst, ◌⊎◌, inl, inr}
use Rattle.std.specs.Prelude.{slice_get, not}
use Rattle.node.specs.declared.messages.Input.TheVariants.{Gone}
use Rattle.node.proofs.Lists.{In}
use Rattle.world.specs.Worlds.{World}
use Rattle.interleavings.specs.Chains.{Chain, calls_from, replies_to}
use Rattle.interleavings.proofs.relation.StandsFor.{Sits, StandsFor, queue, under_way}

-- nothing that counts is another: m is l, some of which was passed on
pub record Passes (w : World) (l m : Chain) : Type 0 where
  pub count : m.count ≡ l.count
  pub stopped : (k : ℕ) → (m.servers k).stopped ≡ (l.servers k).stopped
  pub node : (k : ℕ) → (m.servers k).node ≡ (l.servers k).node
  pub ways : (x y : ℕ) → under_way m x y ≡ under_way l x y
  pub calls : (k c : ℕ)
      → (l.servers k).stopped ≡ false
      → calls_from c (queue (m.servers k)) ≡ calls_from c (queue (l.servers k))
  pub replies : (k c : ℕ) → replies_to c (m.servers k).outbox ≡ replies_to c (l.servers k).outbox
  pub notices : (k j : ℕ)
      → In (Gone j) (queue (m.servers k))
      → In (Gone j) (queue (l.servers k)) ⊎ ((j < l.count) × ((l.servers j).stopped ≡ true))
  pub seats : (c : ℕ)
      → Sits l w (slice_get w.connections c) (l.seats c)
      → Sits m w (slice_get w.connections c) (m.seats c)

-- what stood for the chain stands for what some of it was passed on in
pub passes : (w : World) (l m : Chain) → StandsFor l w → Passes w l m → StandsFor m w
passes w l m h p = record {
  count = p.count ∙ h.count;
  lives = λ k. h.lives k ∙ ap not (sym (p.stopped k));
  servers = λ k e. h.servers k (sym (p.stopped k) ∙ e) ∙ sym (p.node k);
  links = λ x y e. h.links x y (sym (p.stopped y) ∙ e) ∙ sym (p.ways x y);
  calls = λ k c e. p.calls k c (sym (p.stopped k) ∙ e) ∙ h.calls k c (sym (p.stopped k) ∙ e);
  replies = λ k c e. p.replies k c ∙ h.replies k c (sym (p.stopped k) ∙ e);
  notices = λ k j g. elim (p.notices k j g) [
    | inl old ↦ (let f = h.notices k j old in (subst (λ n. j < n) (sym p.count) f.0, p.stopped j ∙ f.1))
    | inr new ↦ (subst (λ n. j < n) (sym p.count) new.0, p.stopped j ∙ new.1)
  ];
  seats = λ c. p.seats c (h.seats c);
}
