-- The first element of a list that passes a test: its place, and the list without it.
use Rattle.std.proofs.Common.{◌≡◌, ℕ, suc, ◌+◌, ◌<◌, ◌≤◌, nat_lt, Bool, true, false, not, cond, List, [], ◌∷◌, length}
use Rattle.std.proofs.Common.{get_or, Option, Some, None, refl, sym, ap, ◌∙◌, arith}
use Rattle.std.specs.Prelude.{position, find, remove, IsSome, IfSome, OnSome, ◌↔◌}
use Rattle.std.proofs.lemmas.Option.{same_Some}
use Rattle.std.proofs.lemmas.Bool.{ltb-true}
use Rattle.std.proofs.lemmas.Bool.Decides.{nat_tests}
use Rattle.std.specs.List.{position_or_len}
use Rattle.node.specs.Servers.{without_first}

module _ {X : Type 0} (test : X → Bool) where
  -- the first that passes the test stands at this place, and the list without it is the list without that place
  pub record IsAt (xs : List X) (i : ℕ) : Type 0 where
    pub within : i < length xs
    pub found : (d : X) → find test xs ≡ Some (get_or xs i d)
    pub left : without_first test xs ≡ remove xs i

  at_step : (b : Bool) (x : X) (xs : List X) (k : ℕ)
      → (k < length xs → IsAt xs k)
      → test x ≡ b
      → cond (not b) (1 + k) 0 < suc (length xs)
      → IsAt (x ∷ xs) (cond (not b) (1 + k) 0)
  at_step true x xs k f is low = record { within = omega arith; found = λ d. rw is refl; left = rw is refl }
  at_step false x xs k f is low =
      let g = f (omega arith) in
      let next : 1 + k ≡ suc k = omega arith in
      rw next (record {
        within = omega (arith, g.within);
        found = λ d. rw is (g.found d);
        left = rw is (ap (λ r. x ∷ r) g.left);
      })

  at_place : (xs : List X) → position_or_len test xs < length xs → IsAt xs (position_or_len test xs)
  at_place [] low = absurd (omega arith)
  at_place (x ∷ xs) low = at_step (test x) x xs (position_or_len test xs) (at_place xs) refl low

  found_step : (n m i : ℕ) (b : Bool) → nat_lt n m ≡ b → cond b (Some n) None ≡ Some i → (n < m) × (n ≡ i)
  found_step n m i true is h = (ltb-true _ _ is, same_Some n i h)
  found_step n m i false is h = absurd cc

  -- the place that is found is that of the first which passes the test
  pub at_position : (xs : List X) (i : ℕ) → position test xs ≡ Some i → IsAt xs i
  at_position xs i h =
      let f = found_step (position_or_len test xs) (length xs) i _ refl h in
      rw (← f.1) (at_place xs f.0)

  -- none passes the test, and the list without the first of them is the list
  pub record IsNowhere (xs : List X) : Type 0 where
    pub none : find test xs ≡ None
    pub same : without_first test xs ≡ xs

  nowhere_step : (b : Bool) (x : X) (xs : List X) (k : ℕ)
      → (length xs ≤ k → IsNowhere xs)
      → test x ≡ b
      → suc (length xs) ≤ cond (not b) (1 + k) 0
      → IsNowhere (x ∷ xs)
  nowhere_step true x xs k f is low = absurd (omega arith)
  nowhere_step false x xs k f is low =
      let g = f (omega arith) in record { none = rw is g.none; same = rw is (ap (λ r. x ∷ r) g.same) }

  no_place : (xs : List X) → length xs ≤ position_or_len test xs → IsNowhere xs
  no_place [] low = record { none = refl; same = refl }
  no_place (x ∷ xs) low = nowhere_step (test x) x xs (position_or_len test xs) (no_place xs) refl low

  none_step : (n m : ℕ) (b : Bool) → nat_lt n m ≡ b → cond b (Some n) None ≡ None → m ≤ n
  none_step n m true is h = absurd cc
  none_step n m false is h = grind (arith, nat_tests, is)

  -- if no place is found, none passes the test
  pub no_position : (xs : List X) → position test xs ≡ None → IsNowhere xs
  no_position xs h = no_place xs (none_step (position_or_len test xs) (length xs) _ refl h)

-- what `remove` gives at that place, and what it leaves
pub removed_found : {X : Type 0} (xs : List X) (i n : ℕ) (found r : Option X)
    → i < length xs
    → ((d : X) → found ≡ Some (get_or xs i d))
    → n ≡ length xs
    → (IsSome r ↔ (i < n))
    → IfSome r (λ y. y ≡ get_or xs i y)
    → r ≡ found
removed_found xs i n found None low is len there value = let never : false ≡ true = there.1 (omega arith) in absurd cc
removed_found xs i n found (Some y) low is len there value = ap Some value ∙ sym (is y)

-- what is left of a list once its element at a place was taken out
pub removed_left : {X : Type 0} (xs ys left : List X) (i n : ℕ) (r : Option X)
    → i < length xs
    → left ≡ remove xs i
    → n ≡ length xs
    → (IsSome r ↔ (i < n))
    → OnSome r (ys ≡ remove xs i)
    → ys ≡ left
removed_left xs ys left i n None low is len there items = let never : false ≡ true = there.1 (omega arith) in absurd cc
removed_left xs ys left i n (Some y) low is len there items = items ∙ sym is
