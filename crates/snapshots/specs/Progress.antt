-- How far a snapshot was written or read.
use Rattle.std.specs.Prelude.{ℕ, ◌+◌, Bool, true, false, List, [], ◌∷◌, ◌++◌, length}
use Rattle.snapshots.specs.Rows.{Row, row_spelling}
use Rattle.snapshots.specs.Snapshots.{begun_with, last_of, head}

-- the bytes so far, the number of the last row, and how many rows there were
pub record Progress : Type 0 where
  pub bytes : List ℕ
  pub last : ℕ
  pub rows : ℕ

-- at first: not even the head
abbrev pub nothing : Progress
nothing = record { bytes = []; last = 0; rows = 0 }

-- the head alone
abbrev pub opened : Progress
opened = record { bytes = head; last = 0; rows = 0 }

-- a row more, of this number and these bytes
abbrev pub with_number : Progress → ℕ → List ℕ → Progress
with_number p number bytes = record { bytes = p.bytes ++ bytes; last = number; rows = p.rows + 1 }

-- a row more
abbrev pub with_row : Progress → Row → Progress
with_row p row = with_number p row.1.unique (row_spelling row)

-- after the head and these rows
abbrev pub progress_of : List Row → Progress
progress_of rows = record { bytes = begun_with rows; last = last_of 0 rows; rows = length rows }

-- there are bytes: the head stands before all others
abbrev pub is_begun : List ℕ → Bool
is_begun [] = false
is_begun (b ∷ bytes) = true
