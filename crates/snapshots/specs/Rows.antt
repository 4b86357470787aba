-- Rows: what a table has at its keys, and the bytes of each (this project's rule).
use Rattle.std.specs.Prelude.{ℕ, ◌<◌, ◌≤◌, ◌^◌, List, length}
use Rattle.std.specs.List.{flat_map}
use Rattle.table.specs.Items.{Item, limit}
use Rattle.table.specs.Keys.{IsKey}
use Rattle.table.specs.declared.operations.Target.TheVariants.{One}
use Rattle.table.specs.declared.operations.Reply.TheVariants.{Stored}
use Rattle.table.specs.declared.operations.Change.TheVariants.{Put}
use Rattle.versions.specs.Entries.{LogEntry}
use Rattle.node.specs.declared.messages.Body.TheVariants.{Forward}
use Rattle.wire.specs.declared.frames.Frame.{Frame}
use Rattle.wire.specs.declared.frames.Frame.TheVariants.{Peer}
use Rattle.wire.specs.Spellings.{spelling}

-- a key and its item
abbrev pub Row : Type 0
Row = List ℕ × Item

-- what a table may have at a key: a number put it, from 1 on
pub record IsRow (row : Row) : Type 0 where
  pub key : IsKey row.0
  pub flags : row.1.flags < 2 ^ 32
  pub size : length row.1.bytes ≤ limit
  pub numbered : 1 ≤ row.1.unique
  pub fits : row.1.unique < 2 ^ 64

-- the entry that put it, as if server 0 had asked for each update of the log
abbrev pub entry_of : Row → LogEntry
entry_of row = record {
  number = row.1.unique;
  origin = 0;
  id = row.1.unique;
  target = One row.0;
  reply = Stored;
  change = Put row.1;
}

-- that entry as a message between servers
abbrev pub frame_of : Row → Frame
frame_of row = Peer (record { view = 0; body = Forward (entry_of row) })

-- the bytes of a row: that message's one spelling
unfoldable pub row_spelling : Row → List ℕ
row_spelling row = spelling (frame_of row)

-- those of rows, one after another
abbrev pub rows_spelling : List Row → List ℕ
rows_spelling rows = flat_map row_spelling rows
