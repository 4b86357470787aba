-- How much a face holds.
use Rattle.std.specs.Prelude.{ℕ, ◌+◌, List, [], ◌∷◌, length}
use Rattle.std.specs.FinMap as maps
use Rattle.table.specs.Items.{Version, data_in}
use Rattle.node.specs.Faces.{Versions}
use Rattle.faces.specs.declared.weights.Weight.{Weight}

-- the bytes of a key and of its version's data
abbrev pub bytes_with : List ℕ → Version → ℕ
bytes_with key version = length key + data_in version.item

-- the bytes of all these keys and of their versions' data
abbrev pub bytes_in : List (List ℕ × Version) → ℕ
bytes_in [] = 0
bytes_in (e ∷ es) = bytes_with e.0 e.1 + bytes_in es

-- how many versions there are, and the bytes of their keys and data
abbrev pub weight_of : Versions → Weight
weight_of versions = record { items = maps.len versions; bytes = bytes_in (maps.entries versions) }
