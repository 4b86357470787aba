-- Bytes on their way to a sink, and the rows that they spell.
use Rattle.std.proofs.Common.{◌≡◌, ℕ, ◌+◌, ◌<◌, ◌≤◌, ◌^◌, List, [], ◌∷◌, ◌++◌, length, take, drop, refl, ap, sym, subst}
use Rattle.std.proofs.Common.{◌∙◌, arith, append_assoc, append-nil, length-append, length-take, take-append-drop}
use Rattle.std.proofs.Common.{Err, Ok, OnErr, OnOk, Result, get_or}
use Rattle.std.proofs.lemmas.List.{take_all, take_more}
use Rattle.std.proofs.lemmas.List.Concat.{flat_map-append}
use Rattle.ends.specs.Ends.{WritesBeginning}
use Rattle.ends.proofs.Written.{begun-first, begun-then, written-then}
use Rattle.snapshots.specs.Sums.{sum_of}
use Rattle.snapshots.specs.Rows.{IsRow, Row, row_spelling, rows_spelling}
use Rattle.snapshots.specs.Snapshots.{IsSnapshot, begun_with, counts, ending, head, spelled_snapshot, sum_in}
use Rattle.snapshots.specs.Progress.{Progress, opened, with_row}
use Rattle.snapshots.specs.Histories.{HasPassed}
use Rattle.snapshots.proofs.Passing.{passed_none, passed_row, passed_whole}
use Rattle.snapshot_files.specs.declared.faults.SaveFault.{SaveFault}
use Rattle.snapshot_files.specs.declared.faults.SaveFault.TheVariants as faults
use Rattle.snapshot_files.specs.Saving.{IsCountFault, IsFileFault, IsNoRow, IsOnItsWay, IsOutFault}
use Rattle.snapshot_files.specs.Saving.{IsPlaceFault, IsPutFault, IsSaveFault, failures_after_save, snapshot}

-- what holds whatever is answered holds at an answer
pub at_an_ok : {T E P : Type 0} (r : Result T E) → P → OnOk r P
at_an_ok (Ok x) p = p
at_an_ok (Err e) p = tt

-- what follows of what an error leaves
pub after_error : {T E P Q : Type 0} (r : Result T E) → (P → Q) → OnErr r P → OnErr r Q
after_error (Ok x) f p = tt
after_error (Err e) f p = f p

-- the first rows, and one more
pub first_rows : (k : ℕ) (rows : List Row) (row : Row)
    → k < length rows
    → row ≡ get_or rows k row
    → take (k + 1) rows ≡ take k rows ++ row ∷ []
first_rows k rows row less e =
    take_more rows k row less ∙ ap (λ (r : Row). take k rows ++ r ∷ []) (sym e)

pub split_rows : (k : ℕ) (rows : List Row) (row : Row)
    → k < length rows
    → row ≡ get_or rows k row
    → rows ≡ take k rows ++ row ∷ drop (k + 1) rows
split_rows k rows row less e =
    sym (take-append-drop (k + 1) rows)
    ∙ ap (λ (rs : List Row). rs ++ drop (k + 1) rows) (first_rows k rows row less e)
    ∙ append_assoc (take k rows) (row ∷ []) (drop (k + 1) rows)

-- at first nothing has gone
pub way_begins : (before written made held : List ℕ)
    → written ≡ before
    → held ≡ made
    → IsOnItsWay before written made held 0
way_begins before written made held e f =
    record { front = []; sent = e ∙ sym (append-nil before); whole = sym f; counted = refl }

-- more was made, and is held back
pub way_more : (before written made held more : List ℕ) (gone : ℕ)
    → IsOnItsWay before written made held gone
    → IsOnItsWay before written (made ++ more) (held ++ more) gone
way_more before written made held more gone h = record {
  front = h.front;
  sent = h.sent;
  whole = ap (λ (t : List ℕ). t ++ more) h.whole ∙ append_assoc h.front held more;
  counted = h.counted;
}

-- what was held back has gone
pub way_gone : (before written after made held : List ℕ) (gone all : ℕ)
    → IsOnItsWay before written made held gone
    → after ≡ written ++ held
    → all ≡ gone + length held
    → IsOnItsWay before after made [] all
way_gone before written after made held gone all h e c = record {
  front = h.front ++ held;
  sent = written-then before written after h.front held h.sent e;
  whole = h.whole ∙ sym (append-nil (h.front ++ held));
  counted = c ∙ ap (λ (n : ℕ). n + length held) h.counted ∙ sym (length-append h.front held);
}

-- the work stops, and a beginning of the text was written
pub way_stops : (before written made held rest text : List ℕ) (gone : ℕ)
    → IsOnItsWay before written made held gone
    → made ++ rest ≡ text
    → WritesBeginning before written text
way_stops before written made held rest text gone h e = (
  h.front,
  held ++ rest,
  sym e ∙ ap (λ (t : List ℕ). t ++ rest) h.whole ∙ append_assoc h.front held rest,
  h.sent,
)

-- the work stops while what is held back is written
pub way_breaks : (before written after made held rest text : List ℕ) (gone : ℕ)
    → IsOnItsWay before written made held gone
    → WritesBeginning written after held
    → made ++ rest ≡ text
    → WritesBeginning before after text
way_breaks before written after made held rest text gone h w e =
    subst (λ (t : List ℕ). WritesBeginning before after t) (ap (λ (t : List ℕ). t ++ rest) (sym h.whole) ∙ e)
    (begun-first before after (h.front ++ held) rest (begun-then before written after h.front held h.sent w))

-- all has gone
pub way_ends : (before written made held after text : List ℕ) (gone all : ℕ)
    → IsOnItsWay before written made held gone
    → after ≡ written ++ held
    → all ≡ gone + length held
    → made ≡ text
    → (after ≡ before ++ text) × (all ≡ length text)
way_ends before written made held after text gone all h e c same =
    let w = way_gone before written after made held gone all h e c in
    let all_front : text ≡ w.front = sym same ∙ w.whole ∙ append-nil w.front in (
      w.sent ∙ ap (λ (t : List ℕ). before ++ t) (sym all_front),
      w.counted ∙ ap length (sym all_front),
    )

-- what the first rows spell begins what all spell
pub made_part : (k : ℕ) (rows : List Row) (p : Progress)
    → HasPassed (take k rows) p
    → p.bytes ++ rows_spelling (drop k rows) ≡ begun_with rows
made_part k rows p h =
    ap (λ (q : Progress). q.bytes ++ rows_spelling (drop k rows)) h.same
    ∙ append_assoc head (rows_spelling (take k rows)) (rows_spelling (drop k rows))
    ∙ ap (λ (t : List ℕ). head ++ t)
    (sym (flat_map-append row_spelling (take k rows) (drop k rows)) ∙ ap rows_spelling (take-append-drop k rows))

-- ---- a row

-- at first the head is held back
pub way_opened : (before : List ℕ) (p : Progress) (held : List ℕ)
    → p ≡ opened
    → held ≡ head
    → IsOnItsWay before before p.bytes held 0
way_opened before p held e f =
    way_begins before before p.bytes held refl (f ∙ sym (ap (λ (q : Progress). q.bytes) e))

pub passed_opened : (rows : List Row) (p : Progress) → p ≡ opened → HasPassed (take 0 rows) p
passed_opened rows p e = subst (λ (q : Progress). HasPassed [] q) (sym e) passed_none

-- the bytes of a row more are held back
pub way_row : (before written held longer : List ℕ) (p q : Progress) (row : Row) (gone : ℕ)
    → q ≡ with_row p row
    → longer ≡ held ++ row_spelling row
    → IsOnItsWay before written p.bytes held gone
    → IsOnItsWay before written q.bytes longer gone
way_row before written held longer p q row gone e f h =
    subst (λ (x : Progress). IsOnItsWay before written x.bytes longer gone) (sym e)
    (subst (λ (t : List ℕ). IsOnItsWay before written (with_row p row).bytes t gone) (sym f)
    (way_more before written p.bytes held (row_spelling row) gone h))

-- a row more has passed
pub row_passed : (k : ℕ) (rows : List Row) (row : Row) (p q : Progress)
    → take (k + 1) rows ≡ take k rows ++ row ∷ []
    → HasPassed (take k rows) p
    → IsRow row
    → p.last < row.1.unique
    → q ≡ with_row p row
    → HasPassed (take (k + 1) rows) q
row_passed k rows row p q there h is less e =
    subst (λ (x : Progress). HasPassed (take (k + 1) rows) x) (sym e)
    (subst (λ (rs : List Row). HasPassed rs (with_row p row)) (sym there)
    (passed_row (take k rows) p row h is less))

-- all have passed
pub all_passed : (k : ℕ) (rows : List Row) (p : Progress)
    → length rows ≤ k
    → HasPassed (take k rows) p
    → HasPassed rows p
all_passed k rows p le h = subst (λ (rs : List Row). HasPassed rs p) (take_all k rows le) h

-- the work stops at a row
pub way_stopped : (before written held : List ℕ) (k : ℕ) (rows : List Row) (p : Progress) (gone : ℕ)
    → HasPassed (take k rows) p
    → IsOnItsWay before written p.bytes held gone
    → WritesBeginning before written (begun_with rows)
way_stopped before written held k rows p gone passed h =
    way_stops before written p.bytes held (rows_spelling (drop k rows)) (begun_with rows) gone h
    (made_part k rows p passed)

-- a beginning of what the first rows spell is one of what all spell
pub way_broken : (before after : List ℕ) (k : ℕ) (rows : List Row) (p : Progress)
    → HasPassed (take k rows) p
    → WritesBeginning before after p.bytes
    → WritesBeginning before after (begun_with rows)
way_broken before after k rows p passed w =
    subst (λ (t : List ℕ). WritesBeginning before after t) (made_part k rows p passed)
    (begun-first before after p.bytes (rows_spelling (drop k rows)) w)

-- what is held back goes out, and a beginning of all was written
pub way_breaks_at : (before written after made held : List ℕ) (gone : ℕ)
    → IsOnItsWay before written made held gone
    → WritesBeginning written after held
    → WritesBeginning before after made
way_breaks_at before written after made held gone h w =
    way_breaks before written after made held [] made gone h w (append-nil made)

-- what is told of a row is told of the rows
pub no_row : (fault : SaveFault) (k : ℕ) (rows : List Row) (row : Row) (p : Progress) (count : ℕ)
    → k < length rows
    → rows ≡ take k rows ++ row ∷ drop (k + 1) rows
    → HasPassed (take k rows) p
    → IsPutFault fault k p.last row
    → IsSaveFault fault (snapshot rows count)
no_row faults.Memory k rows row p count less there h is = tt
no_row (faults.Row why n) k rows row p count less there h is = (
  take k rows,
  row,
  drop (k + 1) rows,
  there,
  omega (arith, is.0, less, length-take k rows),
  subst (λ (q : Progress). IsNoRow why q.last row) h.same is.1,
)
no_row faults.AboveCount k rows row p count less there h is = absurd is
no_row faults.NotFile k rows row p count less there h is = absurd is
no_row faults.Taken k rows row p count less there h is = absurd is
no_row (faults.Unwritten e) k rows row p count less there h is = absurd is
no_row (faults.NotMoved e) k rows row p count less there h is = absurd is
no_row (faults.NotKept e) k rows row p count less there h is = absurd is

-- no write has failed then
pub put_counts : (fault : SaveFault) (k last : ℕ) (row : Row) (n : ℕ)
    → IsPutFault fault k last row
    → n ≡ failures_after_save fault n
put_counts faults.Memory k last row n is = refl
put_counts (faults.Row why m) k last row n is = refl
put_counts faults.AboveCount k last row n is = refl
put_counts faults.NotFile k last row n is = refl
put_counts faults.Taken k last row n is = refl
put_counts (faults.Unwritten e) k last row n is = absurd is
put_counts (faults.NotMoved e) k last row n is = refl
put_counts (faults.NotKept e) k last row n is = refl

-- what is told while bytes go out may be told of any rows
pub out_fault : (fault : SaveFault) (rows : List Row) (count : ℕ)
    → IsOutFault fault
    → IsSaveFault fault (snapshot rows count)
out_fault faults.Memory rows count is = tt
out_fault (faults.Row why n) rows count is = absurd is
out_fault faults.AboveCount rows count is = absurd is
out_fault faults.NotFile rows count is = absurd is
out_fault faults.Taken rows count is = absurd is
out_fault (faults.Unwritten e) rows count is = tt
out_fault (faults.NotMoved e) rows count is = absurd is
out_fault (faults.NotKept e) rows count is = absurd is

-- what is told of rows that go to a sink may be told of a file
pub file_fault : (fault : SaveFault) (rows : List Row) (count : ℕ)
    → IsSaveFault fault (snapshot rows count)
    → IsFileFault fault (snapshot rows count)
file_fault faults.Memory rows count is = tt
file_fault (faults.Row why n) rows count is = is
file_fault faults.AboveCount rows count is = is
file_fault faults.NotFile rows count is = tt
file_fault faults.Taken rows count is = tt
file_fault (faults.Unwritten e) rows count is = tt
file_fault (faults.NotMoved e) rows count is = tt
file_fault (faults.NotKept e) rows count is = tt

-- what is told of a place may be told of a file
pub place_fault : (fault : SaveFault) (rows : List Row) (count : ℕ)
    → IsPlaceFault fault
    → IsFileFault fault (snapshot rows count)
place_fault faults.Memory rows count is = absurd is
place_fault (faults.Row why n) rows count is = absurd is
place_fault faults.AboveCount rows count is = absurd is
place_fault faults.NotFile rows count is = tt
place_fault faults.Taken rows count is = tt
place_fault (faults.Unwritten e) rows count is = tt
place_fault (faults.NotMoved e) rows count is = absurd is
place_fault (faults.NotKept e) rows count is = absurd is

-- ---- the end

-- what is told of the end is told of the rows
pub low_count : (fault : SaveFault) (rows : List Row) (p : Progress) (count : ℕ)
    → HasPassed rows p
    → IsCountFault fault count p.last
    → IsSaveFault fault (snapshot rows count)
low_count faults.Memory rows p count h is = tt
low_count (faults.Row why n) rows p count h is = absurd is
low_count faults.AboveCount rows p count h is = subst (λ (q : Progress). count < q.last) h.same is
low_count faults.NotFile rows p count h is = absurd is
low_count faults.Taken rows p count h is = absurd is
low_count (faults.Unwritten e) rows p count h is = absurd is
low_count (faults.NotMoved e) rows p count h is = absurd is
low_count (faults.NotKept e) rows p count h is = absurd is

-- no write has failed then
pub end_counts : (fault : SaveFault) (count last n : ℕ)
    → IsCountFault fault count last
    → n ≡ failures_after_save fault n
end_counts faults.Memory count last n is = refl
end_counts (faults.Row why m) count last n is = refl
end_counts faults.AboveCount count last n is = refl
end_counts faults.NotFile count last n is = refl
end_counts faults.Taken count last n is = refl
end_counts (faults.Unwritten e) count last n is = absurd is
end_counts (faults.NotMoved e) count last n is = refl
end_counts (faults.NotKept e) count last n is = refl

-- all of a snapshot has gone
all_written : (before written held longer after : List ℕ) (rows : List Row) (p : Progress) (count gone all : ℕ)
    → IsOnItsWay before written p.bytes held gone
    → HasPassed rows p
    → longer ≡ held ++ ending p.bytes count p.rows
    → after ≡ written ++ longer
    → all ≡ gone + length longer
    → (after ≡ before ++ spelled_snapshot (snapshot rows count))
    × (all ≡ length (spelled_snapshot (snapshot rows count)))
all_written before written held longer after rows p count gone all h passed e f c =
    let end = ending p.bytes count p.rows in
    way_ends before written (p.bytes ++ end) (held ++ end) after (spelled_snapshot (snapshot rows count)) gone all
    (way_more before written p.bytes held end gone h) (f ∙ ap (λ (t : List ℕ). written ++ t) e)
    (c ∙ ap (λ (t : List ℕ). gone + length t) e) (passed_whole (snapshot rows count) p passed)

pub snapshot_written : (before written held longer after : List ℕ) (rows : List Row) (p : Progress)
    → (count gone all : ℕ)
    → IsOnItsWay before written p.bytes held gone
    → HasPassed rows p
    → longer ≡ held ++ ending p.bytes count p.rows
    → after ≡ written ++ longer
    → all ≡ gone + length longer
    → after ≡ before ++ spelled_snapshot (snapshot rows count)
snapshot_written before written held longer after rows p count gone all h passed e f c =
    (all_written before written held longer after rows p count gone all h passed e f c).0

pub snapshot_bytes : (before written held longer after : List ℕ) (rows : List Row) (p : Progress)
    → (count gone all : ℕ)
    → IsOnItsWay before written p.bytes held gone
    → HasPassed rows p
    → longer ≡ held ++ ending p.bytes count p.rows
    → after ≡ written ++ longer
    → all ≡ gone + length longer
    → all ≡ length (spelled_snapshot (snapshot rows count))
snapshot_bytes before written held longer after rows p count gone all h passed e f c =
    (all_written before written held longer after rows p count gone all h passed e f c).1

pub snapshot_sum : (rows : List Row) (p : Progress) (count sum : ℕ)
    → HasPassed rows p
    → sum ≡ sum_of (p.bytes ++ counts count p.rows)
    → sum ≡ sum_in (snapshot rows count)
snapshot_sum rows p count sum h e = e ∙ ap (λ (q : Progress). sum_of (q.bytes ++ counts count q.rows)) h.same

-- nothing was written
pub begun_none : (before text : List ℕ) → WritesBeginning before before text
begun_none before text = ([], text, refl, sym (append-nil before))

-- a beginning of the rows was written
pub begun_rows : (before after : List ℕ) (rows : List Row) (count : ℕ)
    → WritesBeginning before after (begun_with rows)
    → WritesBeginning before after (spelled_snapshot (snapshot rows count))
begun_rows before after rows count w =
    begun-first before after (begun_with rows) (ending (begun_with rows) count (length rows)) w

-- the work stops before the end
pub begun_held : (before written held : List ℕ) (rows : List Row) (p : Progress) (count gone : ℕ)
    → IsOnItsWay before written p.bytes held gone
    → HasPassed rows p
    → WritesBeginning before written (spelled_snapshot (snapshot rows count))
begun_held before written held rows p count gone h passed =
    way_stops before written p.bytes held (ending p.bytes count p.rows) (spelled_snapshot (snapshot rows count)) gone h
    (passed_whole (snapshot rows count) p passed)

-- the work stops while the end is written
pub begun_end : (before written held longer after : List ℕ) (rows : List Row) (p : Progress) (count gone : ℕ)
    → IsOnItsWay before written p.bytes held gone
    → HasPassed rows p
    → longer ≡ held ++ ending p.bytes count p.rows
    → WritesBeginning written after longer
    → WritesBeginning before after (spelled_snapshot (snapshot rows count))
begun_end before written held longer after rows p count gone h passed e w =
    let end = ending p.bytes count p.rows in
    way_breaks before written after (p.bytes ++ end) (held ++ end) [] (spelled_snapshot (snapshot rows count)) gone
    (way_more before written p.bytes held end gone h)
    (subst (λ (t : List ℕ). WritesBeginning written after t) e w)
    (append-nil (p.bytes ++ end) ∙ passed_whole (snapshot rows count) p passed)

-- rows that have passed, up to this count, are a snapshot's
pub whole_snapshot : (rows : List Row) (p : Progress) (count : ℕ)
    → HasPassed rows p
    → p.last ≤ count
    → count < 2 ^ 64
    → IsSnapshot (snapshot rows count)
whole_snapshot rows p count h within fits = record {
  rows = h.each;
  rising = h.rising;
  within = subst (λ (q : Progress). q.last ≤ count) h.same within;
  fits = fits;
}
