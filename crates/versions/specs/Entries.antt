-- Entries of a server's log, and the ranges that each keeps (this project's rule).
use Rattle.std.specs.Prelude.{◌≡◌, ℕ, ◌≤◌, ◌<◌, length, Bool, true, false, List, Option, None, Some}
use Rattle.table.specs.Items.{limit, Item}
use Rattle.table.specs.Operations.{is_all, is_value}
use Rattle.table.specs.declared.operations.Target.{Target}
use Rattle.table.specs.declared.operations.Target.TheVariants.{One}
use Rattle.table.specs.declared.operations.Reply.{Reply}
use Rattle.table.specs.declared.operations.Reply.TheVariants.{Flushed}
use Rattle.table.specs.declared.operations.Change.{Change}
use Rattle.table.specs.declared.operations.Change.TheVariants.{Put, Drop, Clear}

-- one update of the log: its number, the server whose client asked for it, that server's id of the call,
-- what it was on, what the client is answered, and what it does to the items
pub record LogEntry : Type 0 where
  pub number : ℕ
  pub origin : ℕ
  pub id : ℕ
  pub target : Target
  pub reply : Reply
  pub change : Change

-- servers have ids below this
abbrev pub server_limit : ℕ
server_limit = 16

-- the change takes all items away
abbrev pub is_clear : Change → Bool
is_clear Clear = true
is_clear change = false

-- the reply is that of a flush
abbrev pub is_flushed : Reply → Bool
is_flushed Flushed = true
is_flushed reply = false

-- an item that is put has the entry's number as its unique, and is no larger than an item may be
abbrev pub PutsOwn : ℕ → Change → Type 0
PutsOwn number (Put item) = (item.unique ≡ number) × (length item.bytes ≤ limit)
PutsOwn number change = Unit {0}

-- what every entry keeps
pub record IsEntry (e : LogEntry) : Type 0 where
  pub numbered : 1 ≤ e.number
  pub served : e.origin < server_limit
  pub called : 1 ≤ e.id
  -- only an update has an entry, and no update shows an item
  pub answered : is_value e.reply ≡ false
  pub put : PutsOwn e.number e.change
  -- all keys together are cleared, and nothing else is done to them; a client is told so exactly then
  pub cleared : is_clear e.change ≡ is_all e.target
  pub flushed : is_flushed e.reply ≡ is_all e.target

-- the item that a change puts, or none
abbrev pub item_put : Change → Option Item
item_put (Put item) = Some item
item_put change = None

-- the key that a change puts or drops the item of, or none
abbrev pub set_key : Target → Change → Option (List ℕ)
set_key (One key) (Put item) = Some key
set_key (One key) Drop = Some key
set_key target change = None
