-- What has passed of a snapshot: its head, and rows that rise.
use Rattle.std.proofs.Common.{◌≡◌, ◌⊎◌, ℕ, ◌+◌, ◌<◌, ◌≤◌, ◌^◌, List, [], ◌∷◌, ◌++◌, length, take, drop, refl, ap, sym}
use Rattle.std.proofs.Common.{subst, ◌∙◌, arith, inl, inr, Bool, true, false, append_assoc, append-nil, length-append}
use Rattle.std.proofs.lemmas.List.Concat.{flat_map-append}
use Rattle.std.specs.List.{AllByRecursion, flat_map}
use Rattle.snapshots.specs.Rows.{Row, IsRow, row_spelling, rows_spelling}
use Rattle.snapshots.specs.Snapshots.{AreRising, IsSnapshot, Snapshot, begun_with, counts, ending, head, last_of}
use Rattle.snapshots.specs.Snapshots.{spelled_snapshot, sum_in}
use Rattle.snapshots.specs.Progress.{Progress, nothing, opened, with_row, progress_of, is_begun}
use Rattle.snapshots.specs.Histories.{AreRead, HasPassed, HasRead}

-- one more at the end
all_more : (rows : List Row) (row : Row)
    → AllByRecursion IsRow rows
    → IsRow row
    → AllByRecursion IsRow (rows ++ row ∷ [])
all_more [] row each h = (h, tt)
all_more (r ∷ rows) row each h = (each.0, all_more rows row each.1 h)

rising_more : (last : ℕ) (rows : List Row) (row : Row)
    → AreRising last rows
    → last_of last rows < row.1.unique
    → AreRising last (rows ++ row ∷ [])
rising_more last [] row rising less = (less, tt)
rising_more last (r ∷ rows) row rising less = (rising.0, rising_more r.1.unique rows row rising.1 less)

last_more : (last : ℕ) (rows : List Row) (row : Row) → last_of last (rows ++ row ∷ []) ≡ row.1.unique
last_more last [] row = refl
last_more last (r ∷ rows) row = last_more r.1.unique rows row

bytes_more : (rows : List Row) (row : Row) → begun_with rows ++ row_spelling row ≡ begun_with (rows ++ row ∷ [])
bytes_more rows row =
    append_assoc head (rows_spelling rows) (row_spelling row)
    ∙ ap (λ (t : List ℕ). head ++ t)
    (ap (λ (t : List ℕ). rows_spelling rows ++ t) (sym (append-nil (row_spelling row)))
    ∙ sym (flat_map-append row_spelling rows (row ∷ [])))

-- progress is what it is made of
same_progress : (bytes more : List ℕ) (last number rows count : ℕ)
    → bytes ≡ more
    → last ≡ number
    → rows ≡ count
    → ◌≡◌ {A = Progress} (record { bytes = bytes; last = last; rows = rows })
    (record { bytes = more; last = number; rows = count })
same_progress bytes more last number rows count e f g = cc

-- a row more
progress_more : (rows : List Row) (row : Row) → with_row (progress_of rows) row ≡ progress_of (rows ++ row ∷ [])
progress_more rows row =
    same_progress (begun_with rows ++ row_spelling row) (begun_with (rows ++ row ∷ [])) row.1.unique
    (last_of 0 (rows ++ row ∷ [])) (length rows + 1) (length (rows ++ row ∷ [])) (bytes_more rows row)
    (sym (last_more 0 rows row)) (sym (length-append rows (row ∷ [])))

-- at first: the head
pub passed_none : HasPassed [] opened
passed_none = record { same = sym (ap (λ (t : List ℕ). at t) (append-nil head)); each = tt; rising = tt }
  where
    at : List ℕ → Progress
    at bytes = record { bytes = bytes; last = 0; rows = 0 }

-- a row more has passed
pub passed_row : (rows : List Row) (p : Progress) (row : Row)
    → HasPassed rows p
    → IsRow row
    → p.last < row.1.unique
    → HasPassed (rows ++ row ∷ []) (with_row p row)
passed_row rows p row h is less = record {
  same = ap (λ (q : Progress). with_row q row) h.same ∙ progress_more rows row;
  each = all_more rows row h.each is;
  rising = rising_more 0 rows row h.rising (subst (λ (q : Progress). q.last < row.1.unique) h.same less);
}

-- with the end it is all of the snapshot
pub passed_whole : (s : Snapshot) (p : Progress)
    → HasPassed s.rows p
    → p.bytes ++ ending p.bytes s.count p.rows ≡ spelled_snapshot s
passed_whole s p h = ap (λ (q : Progress). q.bytes ++ ending q.bytes s.count q.rows) h.same

-- the rows are no more than the last number
pub few_rows : (last : ℕ) (rows : List Row) → AreRising last rows → length rows + last ≤ last_of last rows
few_rows last [] rising = omega arith
few_rows last (row ∷ rows) rising = omega (arith, rising.0, few_rows row.1.unique rows rising.1)

-- what holds of all rows holds of those behind the first ones
pub all_behind : (rows later : List Row) → AllByRecursion IsRow (rows ++ later) → AllByRecursion IsRow later
all_behind [] later each = each
all_behind (r ∷ rows) later each = all_behind rows later each.1

-- rows behind others rise from the last of these on
pub rising_behind : (last : ℕ) (rows later : List Row)
    → AreRising last (rows ++ later)
    → AreRising (last_of last rows) later
rising_behind last [] later rising = rising
rising_behind last (r ∷ rows) later rising = rising_behind r.1.unique rows later rising.1
