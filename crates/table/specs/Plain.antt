-- The plain table: items by their keys and a count, and what one operation makes of it.
-- It knows nothing of servers, versions or messages.
use Rattle.std.specs.Prelude.{ℕ, ◌+◌, List, Option, None, refl, if◌then◌else◌}
use Rattle.std.specs.FinMap as map
use Rattle.std.specs.Coded.{Coded, code_by, coded×, coded_ℕ, coded_list}
use Rattle.table.specs.Keys.{key_cmp}
use Rattle.table.specs.Items.{coded_item, Item}
use Rattle.table.specs.Operations.{is_update}
use Rattle.table.specs.Decisions.{decision}
use Rattle.table.specs.declared.operations.Op.{Op}
use Rattle.table.specs.declared.operations.Reply.{Reply}
use Rattle.table.specs.declared.operations.Change.{Change}
use Rattle.table.specs.declared.operations.Change.TheVariants.{Keep, Put, Drop, Clear}
use Rattle.table.specs.declared.operations.Target.{Target}
use Rattle.table.specs.declared.operations.Target.TheVariants.{One, All}

-- items by their keys
abbrev pub Items : Type 0
Items = map.FinMap key_cmp Item

-- those of a list of entries
abbrev pub items_of : List (List ℕ × Item) → Items
items_of entries = map.from_entries entries

-- the item at a key, or none
abbrev pub item_at : Items → List ℕ → Option Item
item_at items key = map.get items key

-- the item that a target names: all keys together name none
abbrev pub item_of : Items → Target → Option Item
item_of items (One key) = item_at items key
item_of items All = None

-- the items after a change at a key
abbrev pub changed_at : Items → List ℕ → Change → Items
changed_at items key Keep = items
changed_at items key (Put item) = map.insert items key item
changed_at items key Drop = map.remove items key
changed_at items key Clear = map.empty

-- the items after a change at a target: of all keys together, only a clearing changes any
abbrev pub changed : Items → Target → Change → Items
changed items (One key) change = changed_at items key change
changed items All Clear = map.empty
changed items All change = items

-- a table: its items, and how many numbers were taken
pub record PlainTable : Type 0 where
  pub items : Items
  pub count : ℕ

-- a table is stored as its two fields
abbrev pub coded_table : Coded PlainTable
coded_table = code_by (Items × ℕ) (coded× (map.code (coded_list coded_ℕ) coded_item) coded_ℕ) (λ t. (t.items, t.count))
    (λ p. record { items = p.0; count = p.1 }) (λ _. refl)

-- the empty table
abbrev pub opening : PlainTable
opening = record { items = map.empty; count = 0 }

-- the reply to an operation on a target, and the table after it:
-- the operation is decided with the next number, and every operation but a read takes that number, refused or not (this
-- project's rule)
abbrev pub apply : PlainTable → Target → Op → Reply × PlainTable
apply t target op =
    let decided = decision (item_of t.items target) op (t.count + 1) in (
      decided.0,
      record
          { items = changed t.items target decided.1; count = if is_update op then t.count + 1 else t.count },
    )
