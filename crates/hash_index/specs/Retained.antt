-- What is left of entries once those went whose values weren't to stay.
use Rattle.std.specs.Prelude.{◌≡◌, ℕ, Bool, cond, List, [], ◌∷◌, Option, None, Some}
use Rattle.hash_index.specs.Entries.{value_at}
use Rattle.hash_index.specs.Indexes.{IndexContents, found_at}

-- The second list has the keys of the first, in order, with what became of their values, but for those that went. An
-- outcome is a value, whether its entry stays, and the value after.
abbrev pub IsRetained : {V : Type 0} → (V → Bool → V → Type 0) → List (List ℕ × V) → List (List ℕ × V) → Type 0
IsRetained outcome [] fs = fs ≡ []
IsRetained {V} outcome (e ∷ es) fs =
    (b : Bool) × (w : V) × (rest : List (List ℕ × V)) × outcome e.1 b w × IsRetained outcome es rest
    × (fs ≡ cond b ((e.0, w) ∷ rest) rest)

-- What became of a value: of none nothing, and of one another, or none.
abbrev pub BecameOf : {V : Type 0} → (V → Bool → V → Type 0) → Option V → Option V → Type 0
BecameOf outcome None after = after ≡ None
BecameOf {V} outcome (Some v) after = (b : Bool) × (w : V) × outcome v b w × (after ≡ cond b (Some w) None)

-- each key has what became of its value
abbrev pub AreRetained : {V : Type 0} → (V → Bool → V → Type 0) → List (List ℕ × V) → List (List ℕ × V) → Type 0
AreRetained outcome old new = (q : List ℕ) → BecameOf outcome (value_at old q) (value_at new q)

-- the same of an index
abbrev pub HasRetained : {V : Type 0} → (V → Bool → V → Type 0) → IndexContents V → IndexContents V → Type 0
HasRetained outcome old new = (q : List ℕ) → BecameOf outcome (found_at old q) (found_at new q)
