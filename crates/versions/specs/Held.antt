-- Serves a field of the code; no public contract needs it. Numbers of entries as they are held.
use Rattle.std.specs.Prelude.{ℕ, List, [], ◌∷◌}
use Rattle.versions.specs.declared.numbers.Held.{Held}
use Rattle.versions.specs.declared.numbers.Held.TheVariants.{Nothing, One, More}

-- the numbers, in order
abbrev pub numbers_held : Held → List ℕ
numbers_held Nothing = []
numbers_held (One n) = n ∷ []
numbers_held (More queue) = queue.value.items
