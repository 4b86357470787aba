-- Which bits sets of ports have.
use Rattle.std.proofs.Common.{◌≡◌, ◌≢◌, ◌∙◌, ℕ, suc, zero, ◌*◌, ◌<◌, ◌/◌, ◌^◌, ◌%◌, ◌==◌, max}
use Rattle.std.proofs.Common.{Bool, true, false, true≢false, ◌||◌, refl, ap, sym, subst, arith, bit_and, bit_or, w64}
use Rattle.std.proofs.lemmas.Bool.Decides.{nat_tests}
use Rattle.std.specs.Int.{bit_at}
use Rattle.std.proofs.lemmas.Nat.Bits.{shr_and_one, bit_at_or, bit_at_set_same, bit_at_set_other, bit_at-zero}
use Rattle.std.proofs.lemmas.Nat.Bits.{bit_at-lt, same_from_bits_below}

-- whether a number has a bit
abbrev pub has_bit : ℕ → ℕ → Bool
has_bit n k = bit_and (n / 2 ^ k) 1 == 1

bit_is : (n k : ℕ) → has_bit n k ≡ (bit_at n k == 1)
bit_is n k = ap (λ b. b == 1) (shr_and_one n k)

pub no_bit : (k : ℕ) → has_bit 0 k ≡ false
no_bit k = bit_is 0 k ∙ ap (λ b. b == 1) (bit_at-zero k)

larger : (a b : ℕ) → a < 2 → b < 2 → (max a b == 1) ≡ ((a == 1) || (b == 1))
larger zero zero p q = refl
larger zero (suc zero) p q = refl
larger (suc zero) zero p q = refl
larger (suc zero) (suc zero) p q = refl
larger (suc (suc a)) b p q = absurd (omega (arith, p))
larger zero (suc (suc b)) p q = absurd (omega (arith, q))
larger (suc zero) (suc (suc b)) p q = absurd (omega (arith, q))

-- of two numbers' bits
pub either_bit : (a b k : ℕ) → has_bit (bit_or a b) k ≡ (has_bit a k || has_bit b k)
either_bit a b k = bit_is (bit_or a b) k
    ∙ ap (λ x. x == 1) (bit_at_or a b k)
    ∙ larger (bit_at a k) (bit_at b k) (bit_at-lt a k) (bit_at-lt b k)
    ∙ sym (λ i. bit_is a k i || bit_is b k i)

apart : (p q : ℕ) → (q == p) ≡ false → q ≢ p
apart p q e = grind (arith, nat_tests, e)

same : (p q : ℕ) → (q == p) ≡ true → q ≡ p
same p q e = grind (arith, nat_tests, e)

more_by : (t : Bool) (n p q : ℕ)
    → p < 64
    → (q == p) ≡ t
    → has_bit (bit_or n (1 * 2 ^ p % 2 ^ 64)) q ≡ (t || has_bit n q)
more_by true n p q low is = subst (λ k. has_bit (bit_or n (1 * 2 ^ p % 2 ^ 64)) k ≡ true) (sym (same p q is))
    (bit_is (bit_or n (1 * 2 ^ p % 2 ^ 64)) p ∙ ap (λ b. b == 1) (bit_at_set_same w64 n p low))
more_by false n p q low is = bit_is (bit_or n (1 * 2 ^ p % 2 ^ 64)) q
    ∙ ap (λ b. b == 1) (bit_at_set_other w64 n p low q (apart p q is))
    ∙ sym (bit_is n q)

-- with one more bit
pub one_more_bit : (n p q : ℕ) → p < 64 → has_bit (bit_or n (1 * 2 ^ p % 2 ^ 64)) q ≡ ((q == p) || has_bit n q)
one_more_bit n p q low = more_by (q == p) n p q low refl

unset : (b : ℕ) → b < 2 → (b == 1) ≡ false → b ≡ 0
unset zero p is = refl
unset (suc zero) p is = absurd (true≢false is)
unset (suc (suc b)) p is = absurd (omega (arith, p))

-- a number without any of its bits
pub none_set : (n : ℕ) → n < 2 ^ 64 → ((port : ℕ) → has_bit n (port % 64) ≡ false) → n ≡ 0
none_set n low none =
    same_from_bits_below 64 n 0 low (omega arith)
    (λ k below.
    let is : k % 64 ≡ k = omega (arith, below) in
    unset (bit_at n k) (bit_at-lt n k)
    (sym (bit_is n k) ∙ subst (λ j. has_bit n j ≡ false) is (none k))
    ∙ sym (bit_at-zero k))
