-- What a writer has written and a reader has read, over whole runs.
use Rattle.std.specs.Prelude.{◌≡◌, ◌⊎◌, List, [], ◌++◌, ℕ}
use Rattle.std.specs.List.{AllByRecursion}
use Rattle.snapshots.specs.Rows.{Row, IsRow}
use Rattle.snapshots.specs.Snapshots.{AreRising}
use Rattle.snapshots.specs.Progress.{Progress, nothing, progress_of}
use Rattle.snapshots.specs.Readings.{Reading}

-- the head and these rows have passed, which rise
pub record HasPassed (rows : List Row) (p : Progress) : Type 0 where
  pub same : p ≡ progress_of rows
  pub each : AllByRecursion IsRow rows
  pub rising : AreRising 0 rows

-- nothing was read, or the head and these rows
abbrev pub AreRead : List Row → Progress → Type 0
AreRead rows p = ((rows ≡ []) × (p ≡ nothing)) ⊎ HasPassed rows p

-- of the bytes that have come these rows were read, and the rest is unread
pub record HasRead (rows : List Row) (all : List ℕ) (r : Reading) : Type 0 where
  pub came : all ≡ r.progress.bytes ++ r.unread
  pub passed : AreRead rows r.progress
