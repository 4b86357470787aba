-- Who is among servers to which one is added.
use Rattle.std.proofs.Common.{◌≡◌, ℕ, ◌+◌, ◌<◌, Bool, true, false, inl, inr, sym, ◌∙◌, arith}
use Rattle.std.proofs.lemmas.Bool.{cases_eq}
use Rattle.std.proofs.lemmas.Bool.Decides.{nat_tests}
use Rattle.node.specs.Views.{View, single}
use Rattle.node.proofs.ViewLaws.{has-union, has-single_itself, has-single_other, nowhere}
use Rattle.master_decisions.specs.ServerSets.{and_one, is_among}

pub among_itself : (these : View) (i : ℕ) → i < 16 → is_among (and_one these i) i ≡ true
among_itself these i low = grind (arith, nat_tests, has-union these (single i) i, has-single_itself i)

pub among_other : (these : View) (i k : ℕ) → (k ≡ i → ⊥) → is_among (and_one these i) k ≡ is_among these k
among_other these i k other = grind (arith, nat_tests, has-union these (single i) k, has-single_other i k other)

pub among_nobody : (i : ℕ) → is_among 0 i ≡ false
among_nobody i = grind (arith, nat_tests, nowhere i)

-- those below i that pass a test are among them, and i is added, which does
pub one_among : (test : ℕ → Bool) (these : View) (i : ℕ)
    → i < 16
    → test i ≡ true
    → ((k : ℕ) → k < i → is_among these k ≡ test k)
    → (k : ℕ) → k < i + 1 → is_among (and_one these i) k ≡ test k
one_among test these i low passes before k below =
    elim (cases_eq k i) [
      | inl same ↦ rw same (among_itself these i low ∙ sym passes)
      | inr other ↦ among_other these i k other ∙ before k (omega arith)
    ]

-- the same if i is none of them, and doesn't
pub one_outside : (test : ℕ → Bool) (these : View) (i : ℕ)
    → is_among these i ≡ false
    → test i ≡ false
    → ((k : ℕ) → k < i → is_among these k ≡ test k)
    → (k : ℕ) → k < i + 1 → is_among these k ≡ test k
one_outside test these i outside fails before k below =
    elim (cases_eq k i) [ inl same ↦ rw same (outside ∙ sym fails) | inr other ↦ before k (omega arith) ]
