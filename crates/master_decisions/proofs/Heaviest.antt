-- The last one of those that have the greatest number, found one after another: once one more was looked at, whose
-- number is w, the greatest is n, and the last that has it l.
use Rattle.std.proofs.Common.{◌≡◌, ◌⊎◌, ℕ, ◌+◌, ◌<◌, ◌≤◌, inl, inr, ap, sym, ◌∙◌, arith}
use Rattle.std.proofs.lemmas.Bool.{cases_eq}

pub at_most : (i l k : ℕ) → l ≡ i → k < i + 1 → k ≤ l
at_most i l k is below = omega (arith, is, below)

module _ (f : ℕ → ℕ) (i m w n : ℕ) where
  -- it has as great a number
  pub most_with : ((k : ℕ) → k < i → f k ≤ m) → w ≡ f i → m ≤ w → n ≡ w → (k : ℕ) → k < i + 1 → f k ≤ n
  most_with before is above now k below = elim (cases_eq k i) [
    | inl same ↦ omega (arith, is, now, ap f same)
    | inr other ↦ omega (arith, above, now, before k (omega arith))
  ]

  pub own_with : (l : ℕ) → w ≡ f i → n ≡ w → l ≡ i → f l ≡ n
  own_with l is now last = ap f last ∙ sym is ∙ sym now

  -- it has a lesser one
  pub most_without : ((k : ℕ) → k < i → f k ≤ m) → w ≡ f i → w < m → n ≡ m → (k : ℕ) → k < i + 1 → f k ≤ n
  most_without before is less now k below = elim (cases_eq k i) [
    | inl same ↦ omega (arith, is, less, now, ap f same)
    | inr other ↦ omega (arith, now, before k (omega arith))
  ]

  pub last_without : (h l : ℕ)
      → ((k : ℕ) → k < i → f k ≡ m → k ≤ h)
      → w ≡ f i
      → w < m
      → n ≡ m
      → l ≡ h
      → (k : ℕ)
      → k < i + 1
      → f k ≡ n
      → k ≤ l
  last_without h l before is less now last k below equal = elim (cases_eq k i) [
    | inl same ↦ absurd (omega (arith, is, less, now, equal, ap f same))
    | inr other ↦ omega (arith, last, before k (omega arith) (equal ∙ now))
  ]

  pub own_without : (h l : ℕ) → (0 < m → f h ≡ m) → n ≡ m → l ≡ h → 0 < n → f l ≡ n
  own_without h l before now last some = ap f last ∙ before (omega (arith, some, now)) ∙ sym now

-- of two with these numbers the one is chosen that has the greater
module _ (f : ℕ → ℕ) (i j r v w : ℕ) where
  pub first_below : v ≡ f i → w ≡ f j → (r ≡ i) × (w ≤ v) ⊎ (r ≡ j) × (v ≤ w) → f i ≤ f r
  first_below one other choice = elim choice [
    | inl c ↦ omega (arith, ap f c.0)
    | inr c ↦ omega (arith, one, other, c.1, ap f c.0)
  ]

  pub second_below : v ≡ f i → w ≡ f j → (r ≡ i) × (w ≤ v) ⊎ (r ≡ j) × (v ≤ w) → f j ≤ f r
  second_below one other choice = elim choice [
    | inl c ↦ omega (arith, one, other, c.1, ap f c.0)
    | inr c ↦ omega (arith, ap f c.0)
  ]
