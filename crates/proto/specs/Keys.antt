-- Keys among the fields of a line.
use Rattle.std.specs.Prelude.{ℕ, ◌&&◌, nat_le, List, [], ◌∷◌, length, Option, None, Some, if◌then◌else◌}
use Rattle.std.specs.List.{list_all}
use Rattle.table.specs.Keys.{is_key}
use Rattle.proto.specs.Words.{fields_of}

-- the key that a field is, if it is one
abbrev pub key_of : List ℕ → Option (List ℕ)
key_of field = if is_key field then Some field else None

-- the keys that the fields are, if there is one at least and each is one
abbrev pub keys_of : List (List ℕ) → Option (List (List ℕ))
keys_of fields = if nat_le 1 (length fields) && list_all is_key fields then Some fields else None

-- the keys in a text, with a space between each two; an empty text has none
abbrev pub keys_in : List ℕ → List (List ℕ)
keys_in [] = []
keys_in (b ∷ bs) = fields_of (b ∷ bs)
