-- Which servers sets have.
use Rattle.std.proofs.Common.{◌≡◌, ℕ, zero, suc, ◌<◌, ◌⊎◌, inl, inr, max, min, nat_eq, true, refl, ap, sym, ◌∙◌}
use Rattle.std.proofs.Common.{bit_and, bit_or, arith}
use Rattle.std.specs.Int.{bit_at}
use Rattle.std.proofs.lemmas.Nat.Bits.{bit_at_and, bit_at_or, bit_at-zero, bit_at-lt}
use Rattle.std.proofs.lemmas.Bool.{eqb-true, false≢true}
use Rattle.leases.specs.Sets.{has, has_all}

-- the empty set has none
pub none_has : (id : ℕ) → has 0 id ≡ true → ⊥
none_has id named =
    let same : bit_at 0 id ≡ 1 = eqb-true (bit_at 0 id) 1 named in
    let none : bit_at 0 id ≡ 0 = bit_at-zero id in
    omega arith

one_of : (a b : ℕ) → a < 2 → b < 2 → nat_eq (max a b) 1 ≡ true → (nat_eq a 1 ≡ true) ⊎ (nat_eq b 1 ≡ true)
one_of zero zero p q e = absurd (false≢true e)
one_of zero (suc zero) p q e = inr refl
one_of (suc zero) b p q e = inl refl
one_of (suc (suc a)) b p q e = absurd (omega (arith, p))
one_of zero (suc (suc b)) p q e = absurd (omega (arith, q))

-- a server of two sets is in one of them
pub either_has : (one other id : ℕ) → has (bit_or one other) id ≡ true → (has one id ≡ true) ⊎ (has other id ≡ true)
either_has one other id named =
    one_of (bit_at one id) (bit_at other id) (bit_at-lt one id) (bit_at-lt other id)
    (ap (λ b. nat_eq b 1) (sym (bit_at_or one other id)) ∙ named)

least_is : (a b : ℕ) → a < 2 → b ≡ 1 → min a b ≡ b → nat_eq a 1 ≡ true
least_is zero b p q e = absurd (let no : ⊥ = omega arith in no)
least_is (suc zero) b p q e = refl
least_is (suc (suc a)) b p q e = absurd (omega (arith, p))

-- a set that has all of another has each of them
pub all_has : (set all id : ℕ) → has_all set all ≡ true → has all id ≡ true → has set id ≡ true
all_has set all id has_them named =
    let same : bit_and set all ≡ all = eqb-true (bit_and set all) all has_them in
    let one : bit_at all id ≡ 1 = eqb-true (bit_at all id) 1 named in
    least_is (bit_at set id) (bit_at all id) (bit_at-lt set id) one
    (sym (bit_at_and set all id) ∙ ap (λ s. bit_at s id) same)
