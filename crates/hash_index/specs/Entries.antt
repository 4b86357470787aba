-- Entries: keys with their values.
use Rattle.std.specs.Prelude.{◌≡◌, ℕ, zero, suc, Bool, not, List, [], ◌∷◌, Option, None, Some}
use Rattle.std.specs.Map.{lookup}
use Rattle.std.specs.BTreeMap.{is_at}
use Rattle.table.specs.Keys.{tree_key_cmp}
use Rattle.hash_index.specs.Places.{goes}

-- the value that a list of entries has at a key
abbrev pub value_at : {V : Type 0} → List (List ℕ × V) → List ℕ → Option V
value_at es key = lookup (is_at (tree_key_cmp key)) es

-- whether an entry is a key's
abbrev pub is_of : {V : Type 0} → List ℕ → List ℕ × V → Bool
is_of key e = is_at (tree_key_cmp key) e.0

-- the value at a position
abbrev pub value_in : {V : Type 0} → List (List ℕ × V) → ℕ → Option V
value_in [] i = None
value_in (e ∷ es) zero = Some e.1
value_in (e ∷ es) (suc i) = value_in es i

-- this value stands at a position
abbrev pub HasValueAt : {V : Type 0} → List (List ℕ × V) → ℕ → V → Type 0
HasValueAt es i v = value_in es i ≡ Some v

-- with another value at a position
abbrev pub with_value : {V : Type 0} → List (List ℕ × V) → ℕ → V → List (List ℕ × V)
with_value [] i v = []
with_value (e ∷ es) zero v = (e.0, v) ∷ es
with_value (e ∷ es) (suc i) v = e ∷ with_value es i v

-- an entry goes to the new bucket, once there is one more than this count
abbrev pub going : {V : Type 0} → ℕ → ℕ → List ℕ × V → Bool
going half count e = goes half count e.0

-- an entry stays where it is
abbrev pub staying : {V : Type 0} → ℕ → ℕ → List ℕ × V → Bool
staying half count e = not (goes half count e.0)

-- the key at a position
abbrev pub key_in : {V : Type 0} → List (List ℕ × V) → ℕ → Option (List ℕ)
key_in [] i = None
key_in (e ∷ es) zero = Some e.0
key_in (e ∷ es) (suc i) = key_in es i

-- no two entries have one key
abbrev pub AreApart : {V : Type 0} → List (List ℕ × V) → Type 0
AreApart [] = Unit {0}
AreApart (e ∷ es) = (value_at es e.0 ≡ None) × AreApart es
