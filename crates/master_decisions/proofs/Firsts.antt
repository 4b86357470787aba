-- The first element of a list that passes a test, changed: by its place.
use Rattle.std.proofs.Common.{◌≡◌, ℕ, zero, suc, ◌<◌, Bool, true, false, cond, List, [], ◌∷◌, length, set, get_or}
use Rattle.std.proofs.Common.{Some, None, refl, sym, ap, ◌∙◌, arith}
use Rattle.std.specs.Prelude.{find, position, remove}
use Rattle.std.proofs.lemmas.List.Quantifiers.{position-Some}
use Rattle.node.specs.Servers.{without_first}
use Rattle.node.proofs.Firsts.{at_position, no_position}
use Rattle.master_decisions.specs.Firsts.{with_first}

module _ {X : Type 0} (test : X → Bool) (change : X → X) where
  set_first : (xs : List X) (i : ℕ) (d : X)
      → i < length xs
      → test (get_or xs i d) ≡ true
      → ((k : ℕ) → k < i → test (get_or xs k d) ≡ false)
      → set xs i (change (get_or xs i d)) ≡ with_first test change xs
  set_first [] i d within passes before = absurd (omega arith)
  set_first (x ∷ xs) zero d within passes before = rw passes refl
  set_first (x ∷ xs) (suc i) d within passes before =
      rw (before 0 (omega arith))
      (ap (λ ys. x ∷ ys)
      (set_first xs i d (omega arith) passes (λ k below. before (suc k) (omega arith))))

  -- what stands at the place that is found is changed
  pub changed_at : (xs : List X) (i : ℕ) (d : X)
      → position test xs ≡ Some i
      → set xs i (change (get_or xs i d)) ≡ with_first test change xs
  changed_at xs i d at = let f = position-Some test xs i d at in set_first xs i d f.0 f.1 f.2

  same_step : (b : Bool) (x : X) (xs : List X)
      → test x ≡ b
      → (find test xs ≡ None → with_first test change xs ≡ xs)
      → cond b (Some x) (find test xs) ≡ None
      → cond b (change x ∷ xs) (x ∷ with_first test change xs) ≡ x ∷ xs
  same_step true x xs is f h = absurd cc
  same_step false x xs is f h = ap (λ ys. x ∷ ys) (f h)

  none_changed : (xs : List X) → find test xs ≡ None → with_first test change xs ≡ xs
  none_changed [] h = refl
  none_changed (x ∷ xs) h = same_step (test x) x xs refl (none_changed xs) h

  -- if no place is found, nothing is changed
  pub changed_nowhere : (xs : List X) → position test xs ≡ None → xs ≡ with_first test change xs
  changed_nowhere xs at = sym (none_changed xs (no_position test xs at).none)

  -- the same of an element that was read there
  pub changed_there : (xs : List X) (i : ℕ) (x y : X)
      → position test xs ≡ Some i
      → x ≡ get_or xs i x
      → y ≡ change x
      → set xs i y ≡ with_first test change xs
  changed_there xs i x y at is made =
      ap (λ z. set xs i z) (made ∙ ap change is) ∙ changed_at xs i x at

-- what was read or taken out at the place that is found
pub found_there : {X : Type 0} (test : X → Bool) (xs : List X) (i : ℕ) (x : X)
    → position test xs ≡ Some i
    → x ≡ get_or xs i x
    → Some x ≡ find test xs
found_there test xs i x at is = ap Some is ∙ sym ((at_position test xs i at).found x)

-- it passes
pub passes_there : {X : Type 0} (test : X → Bool) (xs : List X) (i : ℕ) (x : X)
    → position test xs ≡ Some i
    → x ≡ get_or xs i x
    → test x ≡ true
passes_there test xs i x at is = ap test is ∙ (position-Some test xs i x at).1

-- what is left once it was taken out
pub left_there : {X : Type 0} (test : X → Bool) (xs ys : List X) (i : ℕ)
    → position test xs ≡ Some i
    → ys ≡ remove xs i
    → ys ≡ without_first test xs
left_there test xs ys i at is = is ∙ sym (at_position test xs i at).left

-- if no place is found there is none, and all is left
pub found_nowhere : {X : Type 0} (test : X → Bool) (xs : List X) → position test xs ≡ None → None ≡ find test xs
found_nowhere test xs at = sym (no_position test xs at).none

pub left_nowhere : {X : Type 0} (test : X → Bool) (xs : List X) → position test xs ≡ None → xs ≡ without_first test xs
left_nowhere test xs at = sym (no_position test xs at).same
