-- A lease that threads ask for.
use Rattle.std.specs.Prelude.{ℕ, ◌<◌, ◌≤◌, Bool, true, false, Option, None, Some}

-- a lease has a term, and so it may end
abbrev pub is_timed : Option ℕ → Bool
is_timed None = false
is_timed (Some term) = true

-- some number of this kind is later
abbrev pub HasLater : (ℕ → Type 0) → ℕ → Type 0
HasLater kind now = (end : ℕ) × (kind end × (now < end))

-- some number of this kind isn't
abbrev pub HasOver : (ℕ → Type 0) → ℕ → Type 0
HasOver kind now = (end : ℕ) × (kind end × (end ≤ now))
