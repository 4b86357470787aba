-- Tests of all numbers below one.
use Rattle.std.proofs.Common.{◌≡◌, ℕ, zero, suc, ◌+◌, ◌<◌, Bool, true, false, refl, arith, inl, inr}
use Rattle.std.proofs.lemmas.Bool.{cases_eq, and_left, and_right}
use Rattle.world.specs.Quiet.{all_below}

-- a test that holds of all below n, and of n, holds of all below n + 1
pub all_more : (n : ℕ) (test : ℕ → Bool) → all_below n test ≡ true → test n ≡ true → all_below (n + 1) test ≡ true
all_more n test below here = let e : n + 1 ≡ suc n = omega arith in rw (e, below, here) refl

-- a test that fails of one number below n doesn't hold of all below n
pub all_broken : (n i : ℕ) (test : ℕ → Bool) → i < n → test i ≡ false → all_below n test ≡ false
all_broken zero i test within here = absurd (omega arith)
all_broken (suc n) i test within here = elim (cases_eq i n) [
  | inl same ↦ and_right _ _ (rw same at here)
  | inr other ↦ and_left _ _ (all_broken n i test (omega arith) here)
]
