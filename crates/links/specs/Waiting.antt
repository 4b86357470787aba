-- Inlets that wait at places.
use Rattle.std.specs.Prelude.{ℕ, zero, suc, List, [], ◌∷◌, Option, None}

-- what stands at a place, counted from 0
abbrev pub at_place : {A : Type 0} → List (Option A) → ℕ → Option A
at_place [] j = None
at_place (x ∷ xs) zero = x
at_place (x ∷ xs) (suc j) = at_place xs j
