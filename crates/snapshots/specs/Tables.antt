-- The table of a snapshot, and which tables updates leave (this project's rule).
use Rattle.std.specs.Prelude.{◌≡◌, ◌⊎◌, ℕ, ◌<◌, ◌≤◌, ◌^◌, List, [], ◌∷◌, map, Option, Some}
use Rattle.std.specs.FinMap as maps
use Rattle.table.specs.Items.{Item}
use Rattle.table.specs.Plain.{PlainTable, item_at}
use Rattle.versions.specs.Stores.{items_after}
use Rattle.snapshots.specs.Rows.{Row, IsRow, entry_of}
use Rattle.snapshots.specs.Snapshots.{Snapshot}

-- the table that a snapshot's entries leave, one after another
abbrev pub table_of : Snapshot → PlainTable
table_of s = record { items = items_after maps.empty (map entry_of s.rows); count = s.count }

-- one of these rows
abbrev pub IsAmong : Row → List Row → Type 0
IsAmong row [] = ⊥
IsAmong row (r ∷ rows) = (row ≡ r) ⊎ IsAmong row rows

-- A table that updates leave from the empty one on: each key and its item may be a row, and the item has a number of
-- its own, from 1 to the count. (An update under each such number puts the item; under the others nothing is found to
-- delete.)
pub record IsReachable (t : PlainTable) : Type 0 where
  pub row : (key : List ℕ) (item : Item) → item_at t.items key ≡ Some item → IsRow (key, item)
  pub within : (key : List ℕ) (item : Item) → item_at t.items key ≡ Some item → item.unique ≤ t.count
  pub distinct : (key other : List ℕ) (item another : Item)
      → item_at t.items key ≡ Some item
      → item_at t.items other ≡ Some another
      → item.unique ≡ another.unique
      → key ≡ other
  pub fits : t.count < 2 ^ 64

-- these are the table's rows: what it has at each key, and nothing else
pub record AreRows (rows : List Row) (t : PlainTable) : Type 0 where
  pub all : (key : List ℕ) (item : Item) → item_at t.items key ≡ Some item → IsAmong (key, item) rows
  pub only : (key : List ℕ) (item : Item) → IsAmong (key, item) rows → item_at t.items key ≡ Some item
