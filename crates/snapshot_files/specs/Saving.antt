-- Rows that are saved: what goes to a sink, what is said of it, and why it is refused.
use Rattle.std.specs.Prelude.{◌≡◌, ℕ, ◌+◌, ◌<◌, ◌≤◌, List, ◌∷◌, ◌++◌, length}
use Rattle.table.specs.Items.{limit}
use Rattle.snapshots.specs.declared.faults.PutFault.{PutFault}
use Rattle.snapshots.specs.declared.faults.PutFault.TheVariants as puts
use Rattle.snapshots.specs.Rows.{Row}
use Rattle.snapshots.specs.Snapshots.{Snapshot, last_of, spelled_snapshot, sum_in}
use Rattle.snapshot_files.specs.declared.saving.Saved.{Saved}
use Rattle.snapshot_files.specs.declared.faults.SaveFault.{SaveFault}
use Rattle.snapshot_files.specs.declared.faults.SaveFault.TheVariants as faults

-- these rows, with this count
abbrev pub snapshot : List Row → ℕ → Snapshot
snapshot rows count = record { rows = rows; count = count }

-- what is said of a snapshot that was saved
pub record IsSaved (saved : Saved) (s : Snapshot) : Type 0 where
  pub rows : saved.rows ≡ length s.rows
  pub bytes : saved.bytes ≡ length (spelled_snapshot s)
  pub count : saved.mark.count ≡ s.count
  pub sum : saved.mark.sum ≡ sum_in s

-- Of what was made, a front has gone to a sink behind what that had, and the rest is held back. The front has so many
-- bytes.
pub record IsOnItsWay (before written made held : List ℕ) (gone : ℕ) : Type 0 where
  pub front : List ℕ
  pub sent : written ≡ before ++ front
  pub whole : made ≡ front ++ held
  pub counted : gone ≡ length front

-- why a row isn't one behind rows of which the last has this number: its own isn't above, or its data is too large
abbrev pub IsNoRow : PutFault → ℕ → Row → Type 0
IsNoRow puts.NotRising last row = row.1.unique ≤ last
IsNoRow puts.TooLarge last row = (last < row.1.unique) × (limit < length row.1.bytes)
IsNoRow puts.Memory last row = ⊥
IsNoRow puts.AboveCount last row = ⊥

-- what may be told of a row behind so many, of which the last has this number
abbrev pub IsPutFault : SaveFault → ℕ → ℕ → Row → Type 0
IsPutFault faults.Memory place last row = Unit {0}
IsPutFault (faults.Row why n) place last row = (n ≡ place) × IsNoRow why last row
IsPutFault fault place last row = ⊥

-- what may be told of the end behind rows of which the last has this number
abbrev pub IsCountFault : SaveFault → ℕ → ℕ → Type 0
IsCountFault faults.Memory count last = Unit {0}
IsCountFault faults.AboveCount count last = count < last
IsCountFault fault count last = ⊥

-- what may be told while bytes go out
abbrev pub IsOutFault : SaveFault → Type 0
IsOutFault faults.Memory = Unit {0}
IsOutFault (faults.Unwritten e) = Unit {0}
IsOutFault fault = ⊥

-- the row behind so many of these isn't one of a snapshot
abbrev pub HasNoRow : PutFault → ℕ → List Row → Type 0
HasNoRow why place rows =
    (before : List Row) × (row : Row) × (later : List Row) × (rows ≡ before ++ row ∷ later)
    × (place ≡ length before) × IsNoRow why (last_of 0 before) row

-- what may be told of these rows and this count: a row that isn't one, told with how many stand before it; a count
-- below the last number; and want of memory, or a sink that failed
abbrev pub IsSaveFault : SaveFault → Snapshot → Type 0
IsSaveFault (faults.Row why place) s = HasNoRow why place s.rows
IsSaveFault faults.AboveCount s = s.count < last_of 0 s.rows
IsSaveFault fault s = IsOutFault fault

-- what may be told of the places of two files
abbrev pub IsPlaceFault : SaveFault → Type 0
IsPlaceFault faults.NotFile = Unit {0}
IsPlaceFault faults.Taken = Unit {0}
IsPlaceFault (faults.Unwritten e) = Unit {0}
IsPlaceFault fault = ⊥

-- what may be told where the sink is a file, which may be refused for more reasons
abbrev pub IsFileFault : SaveFault → Snapshot → Type 0
IsFileFault (faults.Row why place) s = HasNoRow why place s.rows
IsFileFault faults.AboveCount s = s.count < last_of 0 s.rows
IsFileFault fault s = Unit {0}

-- the failures of a sink after a fault: one more if it is that of a write
abbrev pub failures_after_save : SaveFault → ℕ → ℕ
failures_after_save (faults.Unwritten e) n = n + 1
failures_after_save fault n = n
