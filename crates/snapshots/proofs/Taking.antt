-- What a reader finds at the front, and what it makes of it.
use Rattle.std.proofs.Common.{◌≡◌, ◌⊎◌, ℕ, ◌+◌, ◌<◌, ◌≤◌, ◌^◌, List, [], ◌∷◌, ◌++◌, length, take, drop, refl, ap, sym}
use Rattle.std.proofs.Common.{subst, ◌∙◌, arith, inl, inr, Bool, true, false, append-nil, length-append, length-take}
use Rattle.std.proofs.Common.{length-drop}
use Rattle.std.proofs.lemmas.List.{drop_at, take_at}
use Rattle.wire.specs.declared.frames.Frame.{Frame}
use Rattle.wire.specs.Spellings.{IsFrame, four_bytes, spelling}
use Rattle.wire.specs.Grammar.{IsFirst}
use Rattle.wire.proofs.FrontLaws.{one_frame}
use Rattle.snapshots.specs.declared.faults.Flaw.{Flaw}
use Rattle.snapshots.specs.declared.faults.Flaw.TheVariants.{Foreign, OtherFormat, BadFrame, NotRow, NotRising}
use Rattle.snapshots.specs.declared.faults.Flaw.TheVariants.{Cut, Trailing, OtherSum, OtherRows, AboveCount}
use Rattle.snapshots.specs.declared.marks.TableMark.{TableMark}
use Rattle.snapshots.specs.Sums.{sum_of}
use Rattle.snapshots.specs.Rows.{Row, IsRow, frame_of, row_spelling}
use Rattle.snapshots.specs.Snapshots.{counts, ending}
use Rattle.snapshots.specs.Progress.{Progress, is_begun, with_number, with_row}
use Rattle.snapshots.specs.Fed.{IsPlaced}
use Rattle.snapshots.specs.Readings.{at_end, Ends, HasFlaw, HasFlawIf, HasRowFlaw, Reading, TakesRow}
use Rattle.snapshots.proofs.RowLaws.{frame_row, row_text, same_row}
use Rattle.snapshots.proofs.Again.{above, differ, first_more, row_not_bad}

-- a row whose number isn't above is one
pub not_rising : (r : Reading) (frame : Frame) (row : Row)
    → is_begun r.progress.bytes ≡ true
    → (rest : List ℕ) × IsFirst frame r.unread rest
    → frame ≡ frame_of row
    → row.1.unique ≤ r.progress.last
    → HasFlaw NotRising r
not_rising r frame row begun first e le =
    subst (λ (b : Bool). HasFlawIf b NotRising r) (sym begun)
    (row, first.0, subst (λ (f : Frame). IsFirst f r.unread first.0) e first.1, le)

-- the bytes of a frame at the front, and those behind it
front_bytes : (bytes text rest : List ℕ) (n : ℕ)
    → bytes ≡ text ++ rest
    → n ≡ length text
    → (take n bytes ≡ text) × (drop n bytes ≡ rest)
front_bytes bytes text rest n e same = (
  ap (λ (t : List ℕ). take n t) e ∙ take_at text rest n (sym same),
  ap (λ (t : List ℕ). drop n t) e ∙ drop_at text rest n (sym same),
)

-- with its bytes read, a row is taken
pub takes_row : (before after : Reading) (frame : Frame) (row : Row) (n : ℕ)
    → is_begun before.progress.bytes ≡ true
    → (rest : List ℕ) × IsFirst frame before.unread rest
    → frame ≡ frame_of row
    → before.progress.last < row.1.unique
    → n ≡ length (spelling frame)
    → after.unread ≡ drop n before.unread
    → after.progress ≡ with_number before.progress row.1.unique (take n before.unread)
    → TakesRow row before after
takes_row before after frame row n begun first e less same left passed =
    let cut = front_bytes before.unread (spelling frame) first.0 n first.1.spelled same in
    let text : spelling frame ≡ row_spelling row = ap spelling e ∙ sym (row_text row) in
    record {
      begun = begun;
      in_range = frame_row row (subst IsFrame e first.1.in_range);
      rises = less;
      spelled =
          first.1.spelled
          ∙ ap (λ (t : List ℕ). t ++ first.0) text
          ∙ ap (λ (t : List ℕ). row_spelling row ++ t) (sym (left ∙ cut.1));
      passed = passed ∙ ap (λ (t : List ℕ). with_number before.progress row.1.unique t) (cut.0 ∙ text);
    }

-- the place is as far on as the bytes that were read are many
pub placed : (read unread passed left : List ℕ) (place n : ℕ)
    → IsPlaced read unread place
    → n ≤ length unread
    → passed ≡ read ++ take n unread
    → left ≡ drop n unread
    → IsPlaced passed left (place + n)
placed read unread passed left place n h le e f =
    let all = length-append read (take n unread) in
    let front = length-take n unread in
    let rest = length-drop n unread in
    rw (e, f) (record {
      counted = omega (arith, h.counted, all, front, le);
      few = omega (arith, h.few, all, front, rest, le);
    })

-- where a row stands that rises nothing is wrong
pub no_flaw : (flaw : Flaw) (r : Reading) (frame : Frame) (row : Row)
    → is_begun r.progress.bytes ≡ true
    → (rest : List ℕ) × IsFirst frame r.unread rest
    → frame ≡ frame_of row
    → r.progress.last < row.1.unique
    → HasFlaw flaw r
    → ⊥
no_flaw flaw r frame row begun first e less has =
    by_flaw flaw r.unread first.0 r.progress.last (subst (λ (f : Frame). IsFirst f r.unread first.0) e first.1) less
    (subst (λ (b : Bool). HasFlawIf b flaw r) begun has)
  where
    by_flaw : (flaw : Flaw) (unread rest : List ℕ) (last : ℕ)
        → IsFirst (frame_of row) unread rest
        → last < row.1.unique
        → HasRowFlaw flaw last unread
        → ⊥
    by_flaw BadFrame unread rest last first less h =
        row_not_bad row unread [] (rest ++ []) (first_more (frame_of row) unread rest [] first) h.1
    by_flaw NotRow unread rest last first less h =
        h.3 row (one_frame h.0 (frame_of row) unread h.1 rest h.2 first).0
    by_flaw NotRising unread rest last first less h =
        above h.0.1.unique row.1.unique last
        (ap (λ (x : Row). x.1.unique)
        (same_row h.0 row (one_frame (frame_of h.0) (frame_of row) unread h.1 rest h.2 first).0))
        less h.3
    by_flaw Foreign unread rest last first less h = h
    by_flaw OtherFormat unread rest last first less h = h
    by_flaw Cut unread rest last first less h = h
    by_flaw Trailing unread rest last first less h = differ (sym h.0 ∙ ap at_end first.spelled)
    by_flaw OtherSum unread rest last first less h = h
    by_flaw OtherRows unread rest last first less h = h
    by_flaw AboveCount unread rest last first less h = h

-- an end that says what it has to is the end
pub ends_so : (r : Reading) (count rows sum : ℕ)
    → is_begun r.progress.bytes ≡ true
    → r.unread ≡ counts count rows ++ four_bytes sum
    → sum ≡ sum_of (r.progress.bytes ++ take 17 r.unread)
    → rows ≡ r.progress.rows
    → r.progress.last ≤ count
    → count < 2 ^ 64
    → Ends (record { count = count; sum = sum }) r
ends_so r count rows sum begun e total same le fits =
    let due : sum ≡ sum_of (r.progress.bytes ++ counts count r.progress.rows) =
    total
    ∙ ap (λ (t : List ℕ). sum_of (r.progress.bytes ++ take 17 t)) e
    ∙ ap (λ (n : ℕ). sum_of (r.progress.bytes ++ counts count n)) same in
    record {
      begun = begun;
      spelled =
          e
          ∙ ap (λ (n : ℕ). counts count n ++ four_bytes sum) same
          ∙ ap (λ (n : ℕ). counts count r.progress.rows ++ four_bytes n) due;
      sum = due;
      within = le;
      fits = fits;
    }

-- bytes were read, if the place isn't 0
pub begun_at : (read unread : List ℕ) (place : ℕ) → IsPlaced read unread place → (place ≡ 0 → ⊥) → is_begun read ≡ true
begun_at [] unread place h not = absurd (not h.counted)
begun_at (b ∷ read) unread place h not = refl
