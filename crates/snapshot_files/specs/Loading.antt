-- What is loaded, and what is told of bytes that aren't a snapshot.
use Rattle.std.specs.Prelude.{◌≡◌, ◌⊎◌, ℕ, ◌+◌, Bool, true, List, ◌++◌, length}
use Rattle.snapshots.specs.declared.faults.Flaw.{Flaw}
use Rattle.snapshots.specs.Rows.{Row}
use Rattle.snapshots.specs.Snapshots.{IsSnapshot, Snapshot, spelled_snapshot}
use Rattle.snapshots.specs.Readings.{HasEndFlaw, HasFlaw, Reading, Waits, past_head, place_of}
use Rattle.snapshots.specs.Histories.{HasRead}
use Rattle.snapshot_files.specs.declared.faults.LoadFault.{LoadFault}
use Rattle.snapshot_files.specs.declared.faults.LoadFault.TheVariants.{Memory, Unreadable, Flawed}

-- the bytes that have come
abbrev pub come : Reading → List ℕ
come r = r.progress.bytes ++ r.unread

-- no snapshot begins with these bytes
abbrev pub BeginsNone : List ℕ → Type 0
BeginsNone all = (s : Snapshot) (more : List ℕ) → IsSnapshot s → all ++ more ≡ spelled_snapshot s → ⊥

-- no snapshot has these bytes
abbrev pub IsNone : List ℕ → Type 0
IsNone all = (s : Snapshot) → IsSnapshot s → all ≡ spelled_snapshot s → ⊥

-- this is wrong behind what was read, and no more bytes can mend it
pub record IsFlawed (flaw : Flaw) (byte : ℕ) (all : List ℕ) (r : Reading) : Type 0 where
  pub flawed : HasFlaw flaw (past_head r)
  pub place : byte ≡ place_of flaw (past_head r)
  pub none : BeginsNone all

-- the input has ended, all rows that came were read, and this is wrong with the end
pub record IsEndFlawed (flaw : Flaw) (byte : ℕ) (all : List ℕ) (ended : Bool) (r : Reading) : Type 0 where
  pub over : ended ≡ true
  pub waits : Waits r
  pub flawed : HasEndFlaw flaw r
  pub place : byte ≡ place_of flaw r
  pub none : IsNone all

-- what may be told of bytes that have come: what is wrong with them, behind which byte and how many rows; and want of
-- memory, or a source that failed
abbrev pub IsLoadFault : LoadFault → List ℕ → Bool → Type 0
IsLoadFault (Flawed flaw byte n) all ended =
    (rows : List Row) × (r : Reading) × HasRead rows all r × (n ≡ length rows)
    × (IsFlawed flaw byte all r ⊎ IsEndFlawed flaw byte all ended r)
IsLoadFault fault all ended = Unit {0}

-- what may be told of the end behind so many rows
abbrev pub IsEndFault : LoadFault → ℕ → Reading → Type 0
IsEndFault (Flawed flaw byte n) rows r = (n ≡ rows) × HasEndFlaw flaw r × (byte ≡ place_of flaw r)
IsEndFault Memory rows r = Unit {0}
IsEndFault (Unreadable e) rows r = ⊥

-- the failures of a source after a fault: one more if it is that of a read
abbrev pub failures_after_load : LoadFault → ℕ → ℕ
failures_after_load (Unreadable e) n = n + 1
failures_after_load fault n = n
