-- Lists, sets and functions that are changed at one place.
use Rattle.std.proofs.Common.{◌≡◌, ℕ, zero, suc, ◌<◌, ◌⊎◌, inl, inr, Bool, true, false, nat_eq}
use Rattle.std.proofs.Common.{refl, ap, sym, ◌∙◌, subst, arith, max, bit_or}
use Rattle.std.proofs.Common.{List, [], ◌∷◌}
use Rattle.std.specs.Int.{bit_at}
use Rattle.std.proofs.lemmas.Bool.{cases_Bool, cases_order, cond_both, cond-true, eqb-true, eq-eqb, and_parts}
use Rattle.std.proofs.lemmas.Bool.{and_from, false≢true}
use Rattle.std.proofs.lemmas.Nat.Bits.{bit_at_or, bit_at-zero, bit_at-lt}
use Rattle.leases.specs.Sets.{has}
use Rattle.successions.specs.Lists.{is_same, with_at}

-- ---- functions that are changed at one place

-- what holds of the new value there and of the old ones elsewhere holds of all
pub changed : {X : Type 0} (P : ℕ → X → Type 0) (f : ℕ → X) (i : ℕ) (x : X)
    → P i x → ((k : ℕ) → P k (f k)) → (k : ℕ) → P k (with_at f i x k)
unfolding with_at
changed P f i x here there k =
    cond_both (nat_eq k i) x (f k) (P k)
    (λ e. subst (λ j. P j x) (sym (eqb-true k i e)) here)
    (λ e. there k)

-- what holds of the value at k, and of the new one if that stands at k, holds of what stands at k then
pub changed_at : {X : Type 0} (P : X → Type 0) (f : ℕ → X) (i : ℕ) (x : X) (k : ℕ)
    → (k ≡ i → P x) → P (f k) → P (with_at f i x k)
unfolding with_at
changed_at P f i x k here there = cond_both (nat_eq k i) x (f k) P (λ e. here (eqb-true k i e)) (λ e. there)

pub at_same : {X : Type 0} (f : ℕ → X) (i : ℕ) (x : X) → with_at f i x i ≡ x
unfolding with_at
at_same f i x = cond-true (nat_eq i i) x (f i) (eq-eqb i i refl)

-- a flag that is set stays set
pub set_stays : (f : ℕ → Bool) (i k : ℕ) → f k ≡ true → with_at f i true k ≡ true
unfolding with_at
set_stays f i k e = cond_both (nat_eq k i) true (f k) (λ b. b ≡ true) (λ same. refl) (λ other. e)

-- ---- lists of numbers

pub is_same_true : (xs ys : List ℕ) → is_same xs ys ≡ true → xs ≡ ys
is_same_true [] [] e = refl
is_same_true [] (y ∷ ys) e = absurd (false≢true e)
is_same_true (x ∷ xs) [] e = absurd (false≢true e)
is_same_true (x ∷ xs) (y ∷ ys) e =
    let parts = and_parts (nat_eq x y) (is_same xs ys) e in
    let head : x ≡ y = eqb-true x y parts.0 in
    let tail : xs ≡ ys = is_same_true xs ys parts.1 in
    ap (λ z. z ∷ xs) head ∙ ap (λ zs. y ∷ zs) tail

pub is_same_refl : (xs : List ℕ) → is_same xs xs ≡ true
is_same_refl [] = refl
is_same_refl (x ∷ xs) = and_from (nat_eq x x) (is_same xs xs) (eq-eqb x x refl) (is_same_refl xs)

-- ---- sets

-- the empty set has none
pub none_has : (i : ℕ) → has 0 i ≡ true → ⊥
none_has i named =
    let same : bit_at 0 i ≡ 1 = eqb-true (bit_at 0 i) 1 named in
    let none : bit_at 0 i ≡ 0 = bit_at-zero i in
    omega arith

one_of : (a b : ℕ) → a < 2 → b < 2 → nat_eq (max a b) 1 ≡ true → (nat_eq a 1 ≡ true) ⊎ (nat_eq b 1 ≡ true)
one_of zero zero p q e = absurd (false≢true e)
one_of zero (suc zero) p q e = inr refl
one_of (suc zero) b p q e = inl refl
one_of (suc (suc a)) b p q e = absurd (omega (arith, p))
one_of zero (suc (suc b)) p q e = absurd (omega (arith, q))

-- what one of two sets has is in one of them
pub either_has : (one other i : ℕ) → has (bit_or one other) i ≡ true → (has one i ≡ true) ⊎ (has other i ≡ true)
either_has one other i named =
    one_of (bit_at one i) (bit_at other i) (bit_at-lt one i) (bit_at-lt other i)
    (ap (λ b. nat_eq b 1) (sym (bit_at_or one other i)) ∙ named)

most_is : (a b : ℕ) → a < 2 → b < 2 → (nat_eq a 1 ≡ true) ⊎ (nat_eq b 1 ≡ true) → nat_eq (max a b) 1 ≡ true
most_is zero zero p q e = elim e [ inl x ↦ x | inr x ↦ x ]
most_is zero (suc zero) p q e = refl
most_is (suc zero) zero p q e = refl
most_is (suc zero) (suc zero) p q e = refl
most_is (suc (suc a)) b p q e = absurd (omega (arith, p))
most_is zero (suc (suc b)) p q e = absurd (omega (arith, q))
most_is (suc zero) (suc (suc b)) p q e = absurd (omega (arith, q))

-- what is in one of two sets is in both together
pub has_either : (one other i : ℕ) → (has one i ≡ true) ⊎ (has other i ≡ true) → has (bit_or one other) i ≡ true
has_either one other i either =
    ap (λ b. nat_eq b 1) (bit_at_or one other i)
    ∙ most_is (bit_at one i) (bit_at other i) (bit_at-lt one i) (bit_at-lt other i) either

-- ---- a search below a number

-- some number below this one passes, or none does
pub some_below : (P : ℕ → Bool) (n : ℕ) → ((i : ℕ) × (P i ≡ true)) ⊎ ((i : ℕ) → i < n → P i ≡ false)
some_below P zero = inr (λ i less. absurd (omega (arith, less)))
some_below P (suc n) = elim (some_below P n) [
  | inl found ↦ inl found
  | inr none ↦ elim (cases_Bool (P n)) [
    | inl e ↦ inl (n, e)
    | inr e ↦ inr (λ i less. elim (last i less) [
      | inl lower ↦ none i lower
      | inr same ↦ subst (λ k. P k ≡ false) (sym same) e
    ])
  ]
]
  where
    last : (i : ℕ) → i < suc n → (i < n) ⊎ (i ≡ n)
    last i less = elim (cases_order i n) [
      | inl same ↦ inr same
      | inr either ↦ elim either [ inl lower ↦ inl lower | inr above ↦ absurd (omega (arith, less, above)) ]
    ]
