-- The first element of a list that passes a test (lists as they are used here; this project's rule).
use Rattle.std.specs.Prelude.{Bool, List, [], ◌∷◌, if◌then◌else◌}

-- the list, that element being changed so
abbrev pub with_first : {X : Type 0} → (X → Bool) → (X → X) → List X → List X
with_first passes change [] = []
with_first passes change (x ∷ xs) =
    if passes x then change x ∷ xs else x ∷ with_first passes change xs
