-- Serves the fields of the code; no public contract needs it. How they stand for what a store holds: a record for each
-- key, and the numbers of the clears.
use Rattle.std.specs.Prelude.{◌≡◌, ℕ, ◌+◌, ◌-◌, length, Bool, cond, nat_lt, List, [], ◌∷◌, ◌++◌, Option, None, Some}
use Rattle.std.specs.Prelude.{if◌then◌else◌, refl}
use Rattle.std.specs.Coded.{Coded, code_by, coded×, coded_ℕ, coded_list, coded_option}
use Rattle.std.specs.FinMap as map
use Rattle.std.specs.Map.{lookup}
use Rattle.std.specs.List.{slice_get}
use Rattle.std.specs.Option.{option_and_then}
use Rattle.std.specs.BTreeMap.{is_at}
use Rattle.table.specs.Keys.{tree_key_cmp}
use Rattle.table.specs.Plain.{Items}
use Rattle.table.specs.Items.{Item, coded_item}
use Rattle.table.specs.declared.operations.Target.{Target}
use Rattle.table.specs.declared.operations.Change.{Change}
use Rattle.versions.specs.Entries.{LogEntry, item_put, is_clear}
use Rattle.versions.specs.Numbers.{numbers_of}
use Rattle.versions.specs.Stores.{IsStore, sets}

-- A key's record: its item in the base, or none; and the numbers of the entries above the floor that set it.
pub record Record : Type 0 where
  pub item : Option Item
  pub numbers : List ℕ

-- a record is stored as its two fields
abbrev pub coded_record : Coded Record
coded_record = code_by (Option Item × List ℕ) (coded× (coded_option coded_item) (coded_list coded_ℕ))
    (λ r. (r.item, r.numbers)) (λ p. record { item = p.0; numbers = p.1 }) (λ _. refl)

-- the record of a key, or none
abbrev pub record_at : List (List ℕ × Record) → List ℕ → Option Record
record_at records key = lookup (is_at (tree_key_cmp key)) records

-- the item of a record, none if there is none
abbrev pub item_in : Option Record → Option Item
item_in None = None
item_in (Some r) = r.item

-- the numbers of a record, none if there is none
abbrev pub numbers_in : Option Record → List ℕ
numbers_in None = []
numbers_in (Some r) = r.numbers

-- the item that a key has in the base
abbrev pub base_item : List (List ℕ × Record) → List ℕ → Option Item
base_item records key = item_in (record_at records key)

-- the numbers of the entries above the floor that set a key
abbrev pub key_numbers : List (List ℕ × Record) → List ℕ → List ℕ
key_numbers records key = numbers_in (record_at records key)

-- no key's item in the base changes
abbrev pub SameItems : List (List ℕ × Record) → List (List ℕ × Record) → Type 0
SameItems old new = (q : List ℕ) → base_item new q ≡ base_item old q

-- no key's numbers change
abbrev pub SameNumbers : List (List ℕ × Record) → List (List ℕ × Record) → Type 0
SameNumbers old new = (q : List ℕ) → key_numbers new q ≡ key_numbers old q

-- a key has this item in the base, and no other key's item changes
abbrev pub HasItem : List ℕ → Option Item → List (List ℕ × Record) → List (List ℕ × Record) → Type 0
HasItem key item old new = (q : List ℕ) → base_item new q ≡ cond (is_at (tree_key_cmp key) q) item (base_item old q)

-- a key has these numbers, and no other key's change
abbrev pub HasNumbers : List ℕ → List ℕ → List (List ℕ × Record) → List (List ℕ × Record) → Type 0
HasNumbers key numbers old new =
    (q : List ℕ) → key_numbers new q ≡ cond (is_at (tree_key_cmp key) q) numbers (key_numbers old q)

-- with this item at a key, or without one
abbrev pub with_item : Items → List ℕ → Option Item → Items
with_item items key None = map.remove items key
with_item items key (Some item) = map.insert items key item

-- the items of all records
abbrev pub base_of : List (List ℕ × Record) → Items
base_of [] = map.empty
base_of (e ∷ es) = with_item (base_of es) e.0 e.1.item

-- a key with its item, if it has one
abbrev pub put_of : List ℕ → Option Item → List (List ℕ × Item)
put_of key None = []
put_of key (Some item) = (key, item) ∷ []

-- the keys of all records that have an item, with their items
abbrev pub puts_of : List (List ℕ × Record) → List (List ℕ × Item)
puts_of [] = []
puts_of (e ∷ es) = put_of e.0 e.1.item ++ puts_of es

-- the item that the entry at this place puts, or none
abbrev pub item_put_at : List LogEntry → ℕ → Option Item
item_put_at es i = option_and_then (λ e. item_put e.change) (slice_get es i)

-- a key's item, from the number of the last entry that set it and that of the last clear, if there are any
abbrev pub item_from : Option Item → List LogEntry → ℕ → Option ℕ → Option ℕ → Option Item
item_from base entries floor None None = base
item_from base entries floor None (Some cleared) = None
item_from base entries floor (Some set) None = item_put_at entries (set - floor - 1)
item_from base entries floor (Some set) (Some cleared) =
    if nat_lt set cleared then None else item_put_at entries (set - floor - 1)

-- the entry sets the key
abbrev pub is_set : List ℕ → LogEntry → Bool
is_set key e = sets key e.target e.change

-- the entry clears all keys
abbrev pub is_cleared : LogEntry → Bool
is_cleared e = is_clear e.change

-- the records and the clears name exactly the entries that set a key or clear all
pub record IsIndex (records : List (List ℕ × Record)) (clears : List ℕ) (entries : List LogEntry) : Type 0 where
  pub of_keys : (key : List ℕ) → key_numbers records key ≡ numbers_of (is_set key) entries
  pub of_clears : clears ≡ numbers_of is_cleared entries

-- a key's item after a change, from its item before it
abbrev pub item_after : List ℕ → Target → Change → Option Item → Option Item
item_after key target change item =
    if is_clear change then None else (if sets key target change then item_put change else item)

-- what a store keeps of its fields
pub record IsHeld (records : List (List ℕ × Record)) (clears : List ℕ) (entries : List LogEntry) (floor acked last : ℕ)
    : Type 0 where
  pub store : IsStore (record { base = base_of records; floor = floor; rest = entries; acked = acked })
  pub index : IsIndex records clears entries
  pub counted : last ≡ floor + length entries
