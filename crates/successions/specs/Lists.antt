-- Lists, and functions that are changed at one place.
use Rattle.std.specs.Prelude.{◌≡◌, ℕ, ◌⊎◌, nat_eq, Bool, List, [], ◌∷◌, if◌then◌else◌}
use Rattle.std.specs.Cmp.Lexicographic.{pointwise}

-- it is one of these
abbrev pub Among : {A : Type 0} → A → List A → Type 0
Among x [] = ⊥
Among x (y ∷ ys) = (x ≡ y) ⊎ Among x ys

-- the two lists of numbers are the same
abbrev pub is_same : List ℕ → List ℕ → Bool
is_same xs ys = pointwise nat_eq xs ys

-- these, with this one at place i
unfoldable pub with_at : {X : Type 0} → (ℕ → X) → ℕ → X → ℕ → X
with_at f i x k = if nat_eq k i then x else f k
