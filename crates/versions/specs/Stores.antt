-- What a server holds of the items and of its log: the items up to a number, its floor, and the entries above it.
use Rattle.std.specs.Prelude.{◌≡◌, ℕ, ◌+◌, ◌-◌, ◌≤◌, Bool, false, ◌||◌, not, IsTrue, List, [], ◌∷◌, ◌++◌, length, take}
use Rattle.std.specs.Prelude.{drop, Option, None, Some}
use Rattle.std.specs.List.{list_any}
use Rattle.std.specs.FinMap as map
use Rattle.std.specs.Coded.{Coded, coded_ℕ, coded_list}
use Rattle.std.specs.BTreeMap.{is_at}
use Rattle.table.specs.Keys.{key_cmp}
use Rattle.table.specs.Items.{coded_item, Item}
use Rattle.table.specs.Plain.{Items, item_at, changed}
use Rattle.table.specs.declared.operations.Target.{Target}
use Rattle.table.specs.declared.operations.Change.{Change}
use Rattle.versions.specs.Entries.{LogEntry, IsEntry, is_clear, set_key}

-- base: the items after the entries up to the floor; rest: the entries above it, in order;
-- acked: the greatest number up to which this server knows all entries to be committed
pub record StoreState : Type 0 where
  pub base : Items
  pub floor : ℕ
  pub rest : List LogEntry
  pub acked : ℕ

-- items are stored as their entries
abbrev pub coded_items : Coded Items
coded_items = map.code (coded_list coded_ℕ) coded_item

-- the number of the last entry, or the floor if there is none above it
abbrev pub last_number : StoreState → ℕ
last_number s = s.floor + length s.rest

-- entries whose numbers follow one another, the first one being next to this number
abbrev pub IsLog : ℕ → List LogEntry → Type 0
IsLog before [] = Unit {0}
IsLog before (e ∷ es) = IsEntry e × (e.number ≡ before + 1) × IsLog (before + 1) es

-- what every store keeps
pub record IsStore (s : StoreState) : Type 0 where
  pub log : IsLog s.floor s.rest
  pub floor_acked : s.floor ≤ s.acked
  pub acked_held : s.acked ≤ last_number s

-- a store that holds nothing yet
abbrev pub opening_store : StoreState
opening_store = record { base = map.empty; floor = 0; rest = []; acked = 0 }

-- the entries above the floor up to a number
abbrev pub entries_up_to : StoreState → ℕ → List LogEntry
entries_up_to s n = take (n - s.floor) s.rest

-- the entries above a number
abbrev pub entries_after : StoreState → ℕ → List LogEntry
entries_after s n = drop (n - s.floor) s.rest

-- the items after these entries, one after another
abbrev pub items_after : Items → List LogEntry → Items
items_after items [] = items
items_after items (e ∷ es) = items_after (changed items e.target e.change) es

-- the items at a number from the floor to the last: those of the base, changed by the entries up to it
abbrev pub items_at : StoreState → ℕ → Items
items_at s n = items_after s.base (entries_up_to s n)

-- the items after these are put, one after another
abbrev pub items_put : Items → List (List ℕ × Item) → Items
items_put items [] = items
items_put items (e ∷ es) = items_put (map.insert items e.0 e.1) es

-- the item of a key at such a number
-- (CRAQ, "Chain Replication with Apportioned Queries": the version that a dirty read is answered with)
abbrev pub value_at : StoreState → List ℕ → ℕ → Option Item
value_at s key n = item_at (items_at s n) key

-- whether there is a key and it is this one
abbrev pub is_key_of : Option (List ℕ) → List ℕ → Bool
is_key_of None key = false
is_key_of (Some k) key = is_at (key_cmp k) key

-- whether a change puts or drops the item of this very key
abbrev pub sets : List ℕ → Target → Change → Bool
sets key target change = is_key_of (set_key target change) key

-- whether an entry puts, drops or clears a key: a clear is a version of every key
abbrev pub touches : List ℕ → LogEntry → Bool
touches key e = sets key e.target e.change || is_clear e.change

-- a key is clean if no entry above the commit number touches it, and dirty otherwise
-- (CRAQ, "Chain Replication with Apportioned Queries"; a clear makes every key dirty, also keys that were never set)
abbrev pub is_clean : StoreState → List ℕ → Bool
is_clean s key = not (list_any (touches key) (entries_after s s.acked))

-- the key is clean
abbrev pub IsClean : StoreState → List ℕ → Type 0
IsClean s key = IsTrue (is_clean s key)

-- with one more entry at its end
abbrev pub pushed : StoreState → LogEntry → StoreState
pushed s e = record s { rest = s.rest ++ e ∷ [] }

-- with the commit number raised to this one
abbrev pub acked_to : StoreState → ℕ → StoreState
acked_to s n = record s { acked = n }

-- with its floor raised to a number: the entries up to it are in the base
abbrev pub dropped_to : StoreState → ℕ → StoreState
dropped_to s n = record { base = items_at s n; floor = n; rest = entries_after s n; acked = s.acked }
