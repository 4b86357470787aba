-- How inlets are dealt out.
use Rattle.std.proofs.Common.{◌≡◌, ◌≢◌, ◌⊎◌, inl, inr, ℕ, zero, suc, List, [], ◌∷◌, ◌++◌, Option}
use Rattle.std.proofs.Common.{refl, ap, sym, ◌∙◌, append_assoc, append-nil, arith}
use Rattle.craq_process.specs.Wiring.{last_first, listed}

-- two places are one, or they are not
pub either : (j k : ℕ) → (j ≡ k) ⊎ (j ≢ k)
either zero zero = inl refl
either zero (suc k) = inr (λ e. omega (arith, e))
either (suc j) zero = inr (λ e. omega (arith, e))
either (suc j) (suc k) = elim (either j k) [ inl e ↦ inl (ap suc e) | inr n ↦ inr (λ e. n (omega (arith, e))) ]

-- one more stands there
pub last_first_pushed : {A : Type 0} (xs : List (Option A)) (y : Option A)
    → last_first (xs ++ y ∷ []) ≡ listed y ++ last_first xs
last_first_pushed [] y = sym (append-nil (listed y))
last_first_pushed (x ∷ xs) y =
    ap (λ zs. zs ++ listed x) (last_first_pushed xs y) ∙ append_assoc (listed y) (last_first xs) (listed x)

-- nothing stands before the end of an empty list
pub nothing_before : {A : Type 0} (xs ys : List A) → xs ++ ys ≡ [] → xs ≡ []
nothing_before [] ys none = refl
nothing_before (x ∷ xs) ys none = absurd (cc (none))
