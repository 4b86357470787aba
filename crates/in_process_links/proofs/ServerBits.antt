-- Which bits sets of servers have.
use Rattle.std.proofs.Common.{◌≡◌, ◌≢◌, ◌∙◌, ℕ, suc, zero, ◌+◌, ◌-◌, ◌*◌, ◌<◌, ◌≤◌, ◌^◌, ◌%◌, ◌==◌, ◌⊎◌, inl, inr}
use Rattle.std.proofs.Common.{max, Bool, true, false, true≢false, ◌||◌, ◌&&◌, not, refl, ap, sym, subst, arith}
use Rattle.std.proofs.Common.{bit_and, bit_or, w32}
use Rattle.std.proofs.lemmas.Bool.{cases_lt}
use Rattle.std.proofs.lemmas.Bool.Decides.{nat_tests}
use Rattle.std.specs.Int.{bit_at, bit_not, trailing_zeros}
use Rattle.std.proofs.lemmas.Nat.Bits.{bit_at_and, bit_at_or, bit_at_set_same, bit_at_set_other, bit_at_clear_same}
use Rattle.std.proofs.lemmas.Nat.Bits.{bit_at_clear_other, bit_at-zero, bit_at-lt, bit_at_above, bit_at-trailing_zeros}
use Rattle.std.proofs.lemmas.Nat.Bits.{bit_at_mask_inside, bit_at_mask_below, ones_shl}
use Rattle.in_process_links.specs.ServerSets.{IsLowest}

-- whether a number has a bit
abbrev pub has_bit : ℕ → ℕ → Bool
has_bit n k = bit_at n k == 1

-- none has
pub no_bit : (k : ℕ) → has_bit 0 k ≡ false
no_bit k = ap (λ b. b == 1) (bit_at-zero k)

larger : (a b : ℕ) → a < 2 → b < 2 → (max a b == 1) ≡ ((a == 1) || (b == 1))
larger zero zero p q = refl
larger zero (suc zero) p q = refl
larger (suc zero) zero p q = refl
larger (suc zero) (suc zero) p q = refl
larger (suc (suc a)) b p q = absurd (omega (arith, p))
larger zero (suc (suc b)) p q = absurd (omega (arith, q))
larger (suc zero) (suc (suc b)) p q = absurd (omega (arith, q))

-- of two numbers' bits
pub either_bit : (a b k : ℕ) → has_bit (bit_or a b) k ≡ (has_bit a k || has_bit b k)
either_bit a b k = ap (λ x. x == 1) (bit_at_or a b k)
    ∙ larger (bit_at a k) (bit_at b k) (bit_at-lt a k) (bit_at-lt b k)

apart : (p q : ℕ) → (q == p) ≡ false → q ≢ p
apart p q e = grind (arith, nat_tests, e)

same : (p q : ℕ) → (q == p) ≡ true → q ≡ p
same p q e = grind (arith, nat_tests, e)

-- with one more bit
more_by : (t : Bool) (n p q : ℕ)
    → p < 32
    → (q == p) ≡ t
    → has_bit (bit_or n (1 * 2 ^ p % 2 ^ 32)) q ≡ (t || has_bit n q)
more_by true n p q low is = subst (λ k. has_bit (bit_or n (1 * 2 ^ p % 2 ^ 32)) k ≡ true) (sym (same p q is))
    (ap (λ b. b == 1) (bit_at_set_same w32 n p low))
more_by false n p q low is = ap (λ b. b == 1) (bit_at_set_other w32 n p low q (apart p q is))

pub one_more_bit : (n p q : ℕ) → p < 32 → has_bit (bit_or n (1 * 2 ^ p % 2 ^ 32)) q ≡ ((q == p) || has_bit n q)
one_more_bit n p q low = more_by (q == p) n p q low refl

none_both : (n m q : ℕ) → bit_at n q ≡ 0 → bit_at (bit_and n m) q ≡ bit_at n q
none_both n m q none = bit_at_and n m q ∙ omega (arith, none)

-- without one of its bits
fewer_by : (t : Bool) (n p q : ℕ)
    → n < 2 ^ 32
    → p < 32
    → (q == p) ≡ t
    → has_bit (bit_and n (bit_not w32 (1 * 2 ^ p % 2 ^ 32))) q ≡ (not t && has_bit n q)
fewer_by true n p q fits low is =
    subst (λ k. has_bit (bit_and n (bit_not w32 (1 * 2 ^ p % 2 ^ 32))) k ≡ false) (sym (same p q is))
    (ap (λ b. b == 1) (bit_at_clear_same w32 n p low))
fewer_by false n p q fits low is = by (cases_lt q 32)
  where
    by : (q < 32) ⊎ (32 ≤ q) → has_bit (bit_and n (bit_not w32 (1 * 2 ^ p % 2 ^ 32))) q ≡ has_bit n q
    by (inl within) = ap (λ b. b == 1) (bit_at_clear_other w32 n p low q within (apart p q is))
    by (inr beyond) =
        ap (λ b. b == 1)
        (none_both n (bit_not w32 (1 * 2 ^ p % 2 ^ 32)) q (bit_at_above n 32 q fits beyond))

pub one_fewer_bit : (n p q : ℕ) → n < 2 ^ 32 → p < 32
    → has_bit (bit_and n (bit_not w32 (1 * 2 ^ p % 2 ^ 32))) q ≡ (not (q == p) && has_bit n q)
one_fewer_bit n p q fits low = fewer_by (q == p) n p q fits low refl

-- a bit that is set
pub set_bit : (n k : ℕ) → bit_at n k ≡ 1 → has_bit n k ≡ true
set_bit n k is = ap (λ b. b == 1) is

is_one : (b : ℕ) → b < 2 → (b == 1) ≡ true → b ≡ 1
is_one zero low is = absurd (true≢false (sym is))
is_one (suc zero) low is = refl
is_one (suc (suc b)) low is = absurd (omega (arith, low))

pub bit_set : (n k : ℕ) → has_bit n k ≡ true → bit_at n k ≡ 1
bit_set n k is = is_one (bit_at n k) (bit_at-lt n k) is

-- a bit that is set lies below 32
within_32 : (n k : ℕ) → n < 2 ^ 32 → bit_at n k ≡ 1 → k < 32
within_32 n k fits is = by (cases_lt k 32)
  where
    by : (k < 32) ⊎ (32 ≤ k) → k < 32
    by (inl within) = within
    by (inr beyond) =
        let none : bit_at n k ≡ 0 = bit_at_above n 32 k fits beyond in absurd (omega (arith, none, is))

-- the lowest bit of a number that isn't 0
pub lowest_set : (n : ℕ) → 0 < n → n < 2 ^ 32 → IsLowest n (trailing_zeros w32 n % 32)
lowest_set n some fits =
    let found = bit_at-trailing_zeros w32 n some fits in
    let same : trailing_zeros w32 n % 32 ≡ trailing_zeros w32 n = omega (arith, found.0) in
    subst (IsLowest n) (sym same) found

-- The bits from k on: those of a number, and of it with the lower ones cleared.
module _ (n k : ℕ) (fits : n < 2 ^ 32) (low : k < 32) where
  abbrev from : ℕ
  from = bit_and n (4294967295 * 2 ^ k % 2 ^ 32)

  mask : 4294967295 * 2 ^ k % 2 ^ 32 ≡ 2 ^ 32 - 2 ^ k
  mask = ones_shl 32 k (omega (arith, low))

  kept : (j : ℕ) → k ≤ j → j < 32 → bit_at from j ≡ bit_at n j
  kept j above within =
      let one : bit_at (4294967295 * 2 ^ k % 2 ^ 32) j ≡ 1 =
      ap (λ m. bit_at m j) mask ∙ bit_at_mask_inside k 32 j above within in
      bit_at_and n (4294967295 * 2 ^ k % 2 ^ 32) j ∙ omega (arith, one, bit_at-lt n j)

  cleared : (j : ℕ) → j < k → bit_at from j ≡ 0
  cleared j below =
      let none : bit_at (4294967295 * 2 ^ k % 2 ^ 32) j ≡ 0 =
      ap (λ m. bit_at m j) mask ∙ bit_at_mask_below k 32 j below in
      bit_at_and n (4294967295 * 2 ^ k % 2 ^ 32) j ∙ omega (arith, none)

  at_or_above : (t : ℕ) → bit_at from t ≡ 1 → k ≤ t
  at_or_above t is = by (cases_lt t k)
    where
      by : (t < k) ⊎ (k ≤ t) → k ≤ t
      by (inl below) = let none : bit_at from t ≡ 0 = cleared t below in absurd (omega (arith, none, is))
      by (inr above) = above

  -- a bit of these is one of the number's
  pub had_from : (t : ℕ) → t < 32 → bit_at from t ≡ 1 → bit_at n t ≡ 1
  had_from t within is = sym (kept t (at_or_above t is) within) ∙ is

  -- the lowest bit of these is the first one from k on
  pub first_from : (t j : ℕ) → t < 32 → bit_at from t ≡ 1 → ((i : ℕ) → i < t → bit_at from i ≡ 0)
      → bit_at n j ≡ 1
      → (t + 32 - k) % 32 ≤ (j + 32 - k) % 32
  first_from t j within is lowest has = by (cases_lt j k)
    where
      by : (j < k) ⊎ (k ≤ j) → (t + 32 - k) % 32 ≤ (j + 32 - k) % 32
      by (inl below) = omega (arith, below, at_or_above t is, within, low)
      by (inr above) = on (cases_lt j t)
        where
          on : (j < t) ⊎ (t ≤ j) → (t + 32 - k) % 32 ≤ (j + 32 - k) % 32
          on (inl before) =
              let none : bit_at from j ≡ 0 = lowest j before in
              let one : bit_at from j ≡ 1 = kept j above (within_32 n j fits has) ∙ has in
              absurd (omega (arith, none, one))
          on (inr after) = omega (arith, after, above, at_or_above t is, within, within_32 n j fits has, low)

  -- if there are none, the lowest of all is
  pub first_again : (t j : ℕ) → t < 32 → bit_at n t ≡ 1 → ((i : ℕ) → i < t → bit_at n i ≡ 0) → from ≡ 0
      → bit_at n j ≡ 1
      → (t + 32 - k) % 32 ≤ (j + 32 - k) % 32
  first_again t j within is lowest empty has =
      omega (arith, beneath t is, beneath j has, not_before (cases_lt j t), low)
    where
      beneath : (i : ℕ) → bit_at n i ≡ 1 → i < k
      beneath i set = by (cases_lt i k)
        where
          by : (i < k) ⊎ (k ≤ i) → i < k
          by (inl below) = below
          by (inr above) =
              let none : bit_at from i ≡ 0 = ap (λ m. bit_at m i) empty ∙ bit_at-zero i in
              let one : bit_at from i ≡ 1 = kept i above (within_32 n i fits set) ∙ set in
              absurd (omega (arith, none, one))

      not_before : (j < t) ⊎ (t ≤ j) → t ≤ j
      not_before (inl before) = let none : bit_at n j ≡ 0 = lowest j before in absurd (omega (arith, none, has))
      not_before (inr after) = after
