-- A function that was changed at one place.
use Rattle.std.proofs.Common.{◌≡◌, ◌≢◌, ℕ, Bool, true, false, cond, refl, ap, ◌∙◌, inl, inr, sym}
use Rattle.std.proofs.lemmas.Bool.{cases_eq, eq-eqb, ne_eqb}
use mathlib.Core.Path.{fun_ext}
use Rattle.interleavings.specs.Chains.{with_at}

-- the changed place
pub at_same : {X : Type 0} (f : ℕ → X) (i : ℕ) (x : X) → with_at f i x i ≡ x
unfolding with_at
at_same f i x = rw (eq-eqb i i refl) refl

-- any other place
pub at_other : {X : Type 0} (f : ℕ → X) (i : ℕ) (x : X) (k : ℕ) → k ≢ i → with_at f i x k ≡ f k
unfolding with_at
at_other f i x k other = rw (ne_eqb k i other) refl

-- a view that a change leaves as it was
pub kept_at : {X Y : Type 0} (view : X → Y) (f : ℕ → X) (i : ℕ) (x : X)
    → view x ≡ view (f i)
    → (k : ℕ)
    → view (with_at f i x k) ≡ view (f k)
kept_at view f i x e k = elim (cases_eq k i) [
  | inl same ↦ rw same (ap view (at_same f i x) ∙ e)
  | inr other ↦ ap view (at_other f i x k other)
]

-- changed twice at one place, it is what the second change made of it
pub at_twice : {X : Type 0} (f : ℕ → X) (i : ℕ) (x y : X) → with_at (with_at f i x) i y ≡ with_at f i y
at_twice f i x y = fun_ext (λ k. elim (cases_eq k i) [
  | inl same ↦ rw same (at_same (with_at f i x) i y ∙ sym (at_same f i y))
  | inr other ↦ at_other (with_at f i x) i y k other ∙ at_other f i x k other ∙ sym (at_other f i y k other)
])

-- changed to what stands there, it is the same
pub at_self : {X : Type 0} (f : ℕ → X) (i : ℕ) → with_at f i (f i) ≡ f
at_self f i = fun_ext (λ k. elim (cases_eq k i) [
  | inl same ↦ rw same (at_same f i (f i))
  | inr other ↦ at_other f i (f i) k other
])

-- the same by either case
pub same_both : {X : Type 0} (b : Bool) (x : X) → cond b x x ≡ x
same_both true x = refl
same_both false x = refl
