-- What a reader of a snapshot holds, what stands in front of it, and what is wrong with that.
use Rattle.std.specs.Prelude.{◌≡◌, ◌≢◌, ◌⊎◌, ℕ, ◌+◌, ◌<◌, ◌≤◌, ◌^◌, Bool, true, false, ◌&&◌, nat_eq, nat_le, nat_lt}
use Rattle.std.specs.Prelude.{List, [], ◌∷◌, ◌++◌, length, take, drop, if◌then◌else◌}
use Rattle.std.specs.Int.{w32, w64, from_be_bytes}
use Rattle.wire.specs.declared.frames.Frame.{Frame}
use Rattle.wire.specs.Grammar.{IsFirst, IsPartial}
use Rattle.snapshots.specs.declared.faults.Flaw.{Flaw}
use Rattle.snapshots.specs.declared.faults.Flaw.TheVariants.{Foreign, OtherFormat, BadFrame, NotRow, NotRising}
use Rattle.snapshots.specs.declared.faults.Flaw.TheVariants.{Cut, Trailing, OtherSum, OtherRows, AboveCount}
use Rattle.snapshots.specs.declared.faults.SnapshotFault.{SnapshotFault}
use Rattle.snapshots.specs.declared.faults.SnapshotFault.TheVariants.{Memory, Flawed}
use Rattle.snapshots.specs.declared.marks.TableMark.{TableMark}
use Rattle.snapshots.specs.Sums.{sum_of}
use Rattle.snapshots.specs.Fed.{IsBad}
use Rattle.snapshots.specs.Rows.{Row, IsRow, frame_of, row_spelling}
use Rattle.snapshots.specs.Snapshots.{name, head, counts, ending}
use Rattle.snapshots.specs.Progress.{Progress, nothing, opened, with_row, is_begun}

-- what was read, and the bytes that have come after it
pub record Reading : Type 0 where
  pub progress : Progress
  pub unread : List ℕ

-- at first: nothing
abbrev pub unopened : Reading
unopened = record { progress = nothing; unread = [] }

-- a piece more has come
abbrev pub fed : Reading → List ℕ → Reading
fed r piece = record r { unread = r.unread ++ piece }

-- two texts are alike as far as both go
abbrev pub agrees : List ℕ → List ℕ → Bool
agrees [] bytes = true
agrees (a ∷ text) [] = true
agrees (a ∷ text) (b ∷ bytes) = nat_eq a b && agrees text bytes

-- the head stands at the front
abbrev pub has_head : List ℕ → Bool
has_head bytes = agrees head bytes && nat_le 14 (length bytes)

-- the head has been read, if it stands there
abbrev pub past_head : Reading → Reading
past_head r =
    if is_begun r.progress.bytes then r
    else if has_head r.unread then record { progress = opened; unread = drop 14 r.unread }
    else r

-- the end's first byte is there
abbrev pub at_end : List ℕ → Bool
at_end [] = false
at_end (b ∷ bytes) = nat_eq b 0

-- a row stands at the front, behind what was read, and now it is read
pub record TakesRow (row : Row) (before after : Reading) : Type 0 where
  pub begun : is_begun before.progress.bytes ≡ true
  pub in_range : IsRow row
  pub rises : before.progress.last < row.1.unique
  pub spelled : before.unread ≡ row_spelling row ++ after.unread
  pub passed : after.progress ≡ with_row before.progress row

-- no row stands at the front, and nothing is wrong so far: the head isn't whole, or the end is reached, with no more
-- bytes than it has, or a row isn't whole
abbrev pub WaitsIf : Bool → List ℕ → Type 0
WaitsIf false unread = (agrees head unread ≡ true) × (length unread < 14)
WaitsIf true unread = ((at_end unread ≡ true) × (length unread ≤ 21)) ⊎ IsPartial unread

abbrev pub Waits : Reading → Type 0
Waits r = WaitsIf (is_begun r.progress.bytes) r.unread

-- what may be wrong with the head: the bytes are no snapshot, or one of another format
abbrev pub HasHeadFlaw : Flaw → List ℕ → Type 0
HasHeadFlaw Foreign unread = (agrees head unread ≡ false) × (agrees name unread ≡ false)
HasHeadFlaw OtherFormat unread = (agrees head unread ≡ false) × (agrees name unread ≡ true)
HasHeadFlaw flaw unread = ⊥

-- what may be wrong with a row, after one of this number: neither a frame nor the end stands there; or a frame that is
-- no row's; or a row whose number isn't above; or bytes stand behind an end
abbrev pub HasRowFlaw : Flaw → ℕ → List ℕ → Type 0
HasRowFlaw BadFrame last unread = (at_end unread ≡ false) × IsBad unread
HasRowFlaw NotRow last unread =
    (f : Frame) × (rest : List ℕ) × IsFirst f unread rest × ((row : Row) → f ≡ frame_of row → ⊥)
HasRowFlaw NotRising last unread =
    (row : Row) × (rest : List ℕ) × IsFirst (frame_of row) unread rest × (row.1.unique ≤ last)
HasRowFlaw Trailing last unread = (at_end unread ≡ true) × (21 < length unread)
HasRowFlaw flaw last unread = ⊥

-- what is wrong at the front
abbrev pub HasFlawIf : Bool → Flaw → Reading → Type 0
HasFlawIf false flaw r = HasHeadFlaw flaw r.unread
HasFlawIf true flaw r = HasRowFlaw flaw r.progress.last r.unread

abbrev pub HasFlaw : Flaw → Reading → Type 0
HasFlaw flaw r = HasFlawIf (is_begun r.progress.bytes) flaw r

-- at which byte: a snapshot is cut where its bytes end, others trail behind the end, and what else is wrong begins
-- where reading stands
abbrev pub place_of : Flaw → Reading → ℕ
place_of Cut r = length r.progress.bytes + length r.unread
place_of Trailing r = length r.progress.bytes + 21
place_of flaw r = length r.progress.bytes

-- this is wrong, and there: behind so many bytes
abbrev pub IsFault : SnapshotFault → Reading → Type 0
IsFault Memory r = Unit {0}
IsFault (Flawed flaw place) r = HasFlaw flaw r × (place ≡ place_of flaw r)

-- an end stands at the front, whole
abbrev pub has_end : Reading → Bool
has_end r = is_begun r.progress.bytes && (at_end r.unread && nat_le 21 (length r.unread))

-- what an end of 21 bytes says: the table's count, how many rows there were, and the sum
abbrev pub count_at : List ℕ → ℕ
count_at bytes = from_be_bytes w64 (take 8 (drop 1 bytes))

abbrev pub rows_at : List ℕ → ℕ
rows_at bytes = from_be_bytes w64 (take 8 (drop 9 bytes))

abbrev pub sum_at : List ℕ → ℕ
sum_at bytes = from_be_bytes w32 (take 4 (drop 17 bytes))

-- the sum that it has to say
abbrev pub sum_due : Reading → ℕ
sum_due r = sum_of (r.progress.bytes ++ take 17 r.unread)

-- What is wrong, if no more bytes come: no end stands there, or not all of it; bytes stand behind it; the sum is
-- another, or the number of rows; or a row's number is above the count. The first of these is told.
abbrev pub HasEndFlaw : Flaw → Reading → Type 0
HasEndFlaw Cut r = has_end r ≡ false
HasEndFlaw Trailing r = (has_end r ≡ true) × (21 < length r.unread)
HasEndFlaw OtherSum r = (has_end r ≡ true) × (length r.unread ≡ 21) × (sum_at r.unread ≢ sum_due r)
HasEndFlaw OtherRows r =
    (has_end r ≡ true) × (length r.unread ≡ 21) × (sum_at r.unread ≡ sum_due r) × (rows_at r.unread ≢ r.progress.rows)
HasEndFlaw AboveCount r =
    (has_end r ≡ true) × (length r.unread ≡ 21) × (sum_at r.unread ≡ sum_due r) × (rows_at r.unread ≡ r.progress.rows)
    × (count_at r.unread < r.progress.last)
HasEndFlaw flaw r = ⊥

abbrev pub IsEndFault : SnapshotFault → Reading → Type 0
IsEndFault Memory r = ⊥
IsEndFault (Flawed flaw place) r = HasEndFlaw flaw r × (place ≡ place_of flaw r)

-- all that is left is the end of these rows, with this count and this sum
pub record Ends (mark : TableMark) (r : Reading) : Type 0 where
  pub begun : is_begun r.progress.bytes ≡ true
  pub spelled : r.unread ≡ ending r.progress.bytes mark.count r.progress.rows
  pub sum : mark.sum ≡ sum_of (r.progress.bytes ++ counts mark.count r.progress.rows)
  pub within : r.progress.last ≤ mark.count
  pub fits : mark.count < 2 ^ 64
