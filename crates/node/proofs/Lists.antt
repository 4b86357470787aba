-- Lists of any elements: what stands in them, and which begins which.
use Rattle.std.proofs.Common.{◌≡◌, ℕ, zero, suc, List, [], ◌∷◌, ◌++◌, length, Some, refl, ◌⊎◌, inl, inr, ap, sym}
use Rattle.std.specs.Prelude.{slice_get}
use Rattle.std.proofs.lemmas.Option.{same_Some}
pub use Rattle.node.specs.Actions.{In}

-- the first list is a beginning of the second
abbrev pub Begins : {X : Type 0} → List X → List X → Type 0
Begins {X} xs ys = (k : ℕ) (x : X) → slice_get xs k ≡ Some x → slice_get ys k ≡ Some x

at_pushed : {X : Type 0} (xs : List X) (y x : X) (k : ℕ) → slice_get (xs ++ y ∷ []) k ≡ Some x → In x xs ⊎ (x ≡ y)
at_pushed [] y x zero h = inr (sym (same_Some y x h))
at_pushed [] y x (suc k) h = absurd cc
at_pushed (z ∷ xs) y x zero h = inl (0, h)
at_pushed (z ∷ xs) y x (suc k) h = elim (at_pushed xs y x k h) [ inl g ↦ inl (suc g.0, g.1) | inr g ↦ inr g ]

-- what stands in a list with one more is an old one, or this one
pub in_pushed : {X : Type 0} (xs : List X) (y x : X) → In x (xs ++ y ∷ []) → In x xs ⊎ (x ≡ y)
in_pushed xs y x h = at_pushed xs y x h.0 h.1

-- a list begins itself with more at its end
pub get_front : {X : Type 0} (xs ys : List X) (k : ℕ) (x : X)
    → slice_get xs k ≡ Some x
    → slice_get (xs ++ ys) k ≡ Some x
get_front [] ys k x h = absurd cc
get_front (z ∷ xs) ys zero x h = h
get_front (z ∷ xs) ys (suc k) x h = get_front xs ys k x h

-- one more at the end stands at the place that was the list's length
pub get_last : {X : Type 0} (xs : List X) (x : X) → slice_get (xs ++ x ∷ []) (length xs) ≡ Some x
get_last [] x = refl
get_last (y ∷ xs) x = get_last xs x

-- what was pushed stands at the end
pub pushed_cases : {X : Type 0} (xs : List X) (y : X) (k : ℕ) (x : X)
    → slice_get (xs ++ y ∷ []) k ≡ Some x
    → (slice_get xs k ≡ Some x) ⊎ ((k ≡ length xs) × (x ≡ y))
pushed_cases [] y zero x h = inr (refl, sym (same_Some y x h))
pushed_cases [] y (suc k) x h = absurd cc
pushed_cases (z ∷ xs) y zero x h = inl h
pushed_cases (z ∷ xs) y (suc k) x h = elim (pushed_cases xs y k x h) [ inl g ↦ inl g | inr g ↦ inr (ap suc g.0, g.1) ]

-- what stands in two joined lists stands in one of them
pub in_joined : {X : Type 0} (xs ys : List X) (x : X) → In x (xs ++ ys) → In x xs ⊎ In x ys
in_joined [] ys x h = inr h
in_joined (z ∷ xs) ys x (zero, h) = inl (0, h)
in_joined (z ∷ xs) ys x (suc k, h) = elim (in_joined xs ys x (k, h)) [ inl g ↦ inl (suc g.0, g.1) | inr g ↦ inr g ]

-- what stands in a list still does with others after it
pub in_front : {X : Type 0} (xs ys : List X) (x : X) → In x xs → In x (xs ++ ys)
in_front xs ys x h = (h.0, get_front xs ys h.0 x h.1)

-- what stands in a list still does with others in front of it
pub in_behind : {X : Type 0} (xs ys : List X) (x : X) → In x ys → In x (xs ++ ys)
in_behind [] ys x h = h
in_behind (z ∷ xs) ys x h = let g = in_behind xs ys x h in (suc g.0, g.1)

-- what stands in a list with one more in front is that one, or stands in the list
pub in_more : {X : Type 0} (y : X) (xs : List X) (x : X) → In x (y ∷ xs) → (x ≡ y) ⊎ In x xs
in_more y xs x (zero, h) = inl (sym (same_Some y x h))
in_more y xs x (suc k, h) = inr (k, h)
