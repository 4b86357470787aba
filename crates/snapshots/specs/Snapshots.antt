-- Snapshots: a table's rows in the order of their numbers, and its count; and their bytes (this project's rule).
use Rattle.std.specs.Prelude.{ℕ, ◌<◌, ◌≤◌, ◌^◌, List, [], ◌∷◌, ◌++◌, length}
use Rattle.std.specs.List.{AllByRecursion}
use Rattle.wire.specs.Spellings.{eight_bytes, four_bytes}
use Rattle.snapshots.specs.Sums.{sum_of}
use Rattle.snapshots.specs.Rows.{Row, IsRow, rows_spelling}

-- a table as a log with gaps: the updates that put what it has, and how many updates there were
pub record Snapshot : Type 0 where
  pub rows : List Row
  pub count : ℕ

-- each number is above the one before
abbrev pub AreRising : ℕ → List Row → Type 0
AreRising last [] = Unit {0}
AreRising last (row ∷ rows) = (last < row.1.unique) × AreRising row.1.unique rows

-- the last of the numbers
abbrev pub last_of : ℕ → List Row → ℕ
last_of last [] = last
last_of last (row ∷ rows) = last_of row.1.unique rows

-- Each row may stand in a table, their numbers rise, and none is above the count: so the numbers are distinct ones
-- from 1 to the count, and such updates leave these rows.
pub record IsSnapshot (s : Snapshot) : Type 0 where
  pub rows : AllByRecursion IsRow s.rows
  pub rising : AreRising 0 s.rows
  pub within : last_of 0 s.rows ≤ s.count
  pub fits : s.count < 2 ^ 64

-- what a snapshot begins with: "craq snapshot" in ASCII
unfoldable pub name : List ℕ
name = 99 ∷ 114 ∷ 97 ∷ 113 ∷ 32 ∷ 115 ∷ 110 ∷ 97 ∷ 112 ∷ 115 ∷ 104 ∷ 111 ∷ 116 ∷ []

-- that, and the format's number
unfoldable pub head : List ℕ
head = 99 ∷ 114 ∷ 97 ∷ 113 ∷ 32 ∷ 115 ∷ 110 ∷ 97 ∷ 112 ∷ 115 ∷ 104 ∷ 111 ∷ 116 ∷ 1 ∷ []

-- the head and these rows
abbrev pub begun_with : List Row → List ℕ
begun_with rows = head ++ rows_spelling rows

-- the end without its sum: a byte with which no row begins, the table's count, and how many rows there were
abbrev pub counts : ℕ → ℕ → List ℕ
counts count rows = 0 ∷ (eight_bytes count ++ eight_bytes rows)

-- the end after these bytes: the sum is of all bytes before it
abbrev pub ending : List ℕ → ℕ → ℕ → List ℕ
ending before count rows = counts count rows ++ four_bytes (sum_of (before ++ counts count rows))

-- the bytes of a snapshot: its head, its rows and its end
abbrev pub spelled_snapshot : Snapshot → List ℕ
spelled_snapshot s = begun_with s.rows ++ ending (begun_with s.rows) s.count (length s.rows)

-- the sum of a snapshot
abbrev pub sum_in : Snapshot → ℕ
sum_in s = sum_of (begun_with s.rows ++ counts s.count (length s.rows))
