-- What goes from a face if a number is acknowledged.
use Rattle.std.specs.Prelude.{ℕ, List, not, if◌then◌else◌}
use Rattle.std.specs.FinMap as maps
use Rattle.table.specs.Items.{Version}
use Rattle.node.specs.Faces.{Versions, is_removed}

-- the versions of a tree of entries
abbrev pub map_of : List (List ℕ × Version) → Versions
map_of entries = maps.from_entries entries

-- the versions that stay once this number is acknowledged
abbrev pub without_removed : ℕ → Versions → Versions
without_removed n versions = maps.retain_keys versions (λ key. not (is_removed n (maps.get versions key)))

-- the versions without a key's own, if that one is to go
abbrev pub taken_at : ℕ → List ℕ → Versions → Versions
taken_at n key versions = if is_removed n (maps.get versions key) then maps.remove versions key else versions
