-- A snapshot that was written is read again, however it is cut.
use Rattle.std.proofs.Common.{◌≡◌, ◌⊎◌, ℕ, ◌+◌, ◌<◌, ◌≤◌, ◌^◌, List, [], ◌∷◌, ◌++◌, length, take, drop, refl, ap, sym}
use Rattle.std.proofs.Common.{subst, ◌∙◌, arith, inl, inr, Bool, true, false, append_assoc, append-nil, length-append}
use Rattle.std.proofs.Common.{Result, Ok, Err, nat_eq, ◌&&◌}
use Rattle.std.proofs.lemmas.List.{append_cancel_left}
use Rattle.std.proofs.lemmas.Bool.{and_from, eq-eqb}
use Rattle.std.specs.List.{AllByRecursion, flat_map}
use Rattle.wire.specs.declared.fields.Stop.{Stop}
use Rattle.wire.specs.declared.fields.Stop.TheVariants.{Short, Malformed, Old}
use Rattle.wire.specs.declared.frames.Frame.{Frame}
use Rattle.wire.specs.Spellings.{eight_bytes, four_bytes, spelling}
use Rattle.wire.specs.Grammar.{HasFrame, IsFirst, IsMalformed, IsOld, IsPartial}
use Rattle.wire.specs.Fronts.{Read, front}
use Rattle.wire.proofs.FrontLaws.{first_to, malformed_to, nothing_read, ok_not_err, old_to, one_frame}
use Rattle.wire.proofs.StreamLaws.{bad_is_final}
use Rattle.snapshots.specs.declared.faults.Flaw.{Flaw}
use Rattle.snapshots.specs.declared.faults.Flaw.TheVariants.{Foreign, OtherFormat, BadFrame, NotRow, NotRising}
use Rattle.snapshots.specs.declared.faults.Flaw.TheVariants.{Cut, Trailing, OtherSum, OtherRows, AboveCount}
use Rattle.snapshots.specs.Sums.{sum_of}
use Rattle.snapshots.specs.Rows.{Row, IsRow, frame_of, row_spelling, rows_spelling}
use Rattle.snapshots.specs.Snapshots.{AreRising, IsSnapshot, Snapshot, begun_with, counts, ending, head, name, last_of}
use Rattle.snapshots.specs.Snapshots.{spelled_snapshot, sum_in}
use Rattle.snapshots.specs.Progress.{Progress, nothing, progress_of, is_begun}
use Rattle.snapshots.specs.Fed.{IsBad}
use Rattle.snapshots.specs.Readings.{HasEndFlaw, HasFlaw, HasFlawIf, HasHeadFlaw, HasRowFlaw, Reading, Waits, WaitsIf}
use Rattle.snapshots.specs.Readings.{agrees, at_end, count_at, has_end, past_head, sum_at, sum_due, rows_at}
use Rattle.snapshots.specs.Histories.{AreRead, HasPassed, HasRead}
use Rattle.snapshots.proofs.RowLaws.{row_frame, row_text, same_row}
use Rattle.snapshots.proofs.Passing.{all_behind, few_rows, rising_behind}
use Rattle.snapshots.proofs.Endings.{says_count, says_rows, says_sum, sum_fits}
use Rattle.snapshots.proofs.Reading.{begun_true, head_length, read_head}

-- ---- rows at a front

-- a row stands in front of what follows its bytes
pub row_first : (row : Row) (rest : List ℕ) → IsRow row → IsFirst (frame_of row) (row_spelling row ++ rest) rest
row_first row rest h = record {
  in_range = row_frame row h;
  spelled = ap (λ (t : List ℕ). t ++ rest) (row_text row);
}

-- no frame begins as the end does
end_is_bad : (rest : List ℕ) → front (0 ∷ rest) ≡ Err Malformed
unfolding front
end_is_bad rest = refl

no_frame_at_end : (f : Frame) (y rest bytes : List ℕ) → bytes ≡ 0 ∷ y → IsFirst f bytes rest → ⊥
no_frame_at_end f y rest bytes e h =
    ok_not_err (front bytes) (f, rest) Malformed (first_to bytes f rest h) (ap front e ∙ end_is_bad y)

-- a row doesn't begin as the end does
row_not_end : (row : Row) (rest : List ℕ) → at_end (row_spelling row ++ rest) ≡ false
unfolding row_spelling
row_not_end row rest = refl

-- bytes that stand there, and more behind them
pub first_more : (f : Frame) (bytes rest more : List ℕ)
    → IsFirst f bytes rest
    → IsFirst f (bytes ++ more) (rest ++ more)
first_more f bytes rest more h = record {
  in_range = h.in_range;
  spelled = ap (λ (t : List ℕ). t ++ more) h.spelled ∙ append_assoc (spelling f) rest more;
}

cons_same : (d r : Row) (later rows : List Row) → d ≡ r → rows ≡ later → r ∷ rows ≡ d ∷ later
cons_same d r later rows e f = cc

-- bytes that begin with these rows, and are those rows and then the end, are of these rows first
pub first_rows : (done rows : List Row) (x y : List ℕ)
    → AllByRecursion IsRow done
    → AllByRecursion IsRow rows
    → rows_spelling done ++ x ≡ rows_spelling rows ++ 0 ∷ y
    → (later : List Row) × (rows ≡ done ++ later) × (x ≡ rows_spelling later ++ 0 ∷ y)
first_rows [] rows x y ds rs e = (rows, refl, e)
first_rows (d ∷ done) [] x y ds rs e =
    absurd
    (no_frame_at_end (frame_of d) y (rows_spelling done ++ x) (row_spelling d ++ (rows_spelling done ++ x))
    (sym (append_assoc (row_spelling d) (rows_spelling done) x) ∙ e) (row_first d (rows_spelling done ++ x) ds.0))
first_rows (d ∷ done) (r ∷ rows) x y ds rs e =
    let front : row_spelling d ++ (rows_spelling done ++ x) ≡ row_spelling r ++ (rows_spelling rows ++ 0 ∷ y) =
    sym (append_assoc (row_spelling d) (rows_spelling done) x)
    ∙ e
    ∙ append_assoc (row_spelling r) (rows_spelling rows) (0 ∷ y) in
    let same =
    one_frame (frame_of d) (frame_of r) (row_spelling d ++ (rows_spelling done ++ x)) (rows_spelling done ++ x)
    (rows_spelling rows ++ 0 ∷ y) (row_first d (rows_spelling done ++ x) ds.0)
    (subst (λ (t : List ℕ). IsFirst (frame_of r) t (rows_spelling rows ++ 0 ∷ y)) (sym front)
    (row_first r (rows_spelling rows ++ 0 ∷ y) rs.0)) in
    let rest = first_rows done rows x y ds.1 rs.1 same.1 in
    (rest.0, cons_same d r (done ++ rest.0) rows (same_row d r same.0) rest.1, rest.2)

-- ---- what is left of a snapshot

-- the end behind its first byte
abbrev end_rest : Snapshot → List ℕ
end_rest s = (eight_bytes s.count ++ eight_bytes (length s.rows)) ++ four_bytes (sum_in s)

-- it has 21 bytes
end_short : (s : Snapshot) → length (end_rest s) ≤ 20
end_short s = let e : length (end_rest s) ≡ 20 = refl in omega (arith, e)

end_long : (s : Snapshot) → length (0 ∷ end_rest s) ≤ 21
end_long s = let e : length (0 ∷ end_rest s) ≡ 21 = refl in omega (arith, e)

-- the head and some rows have passed, and the rest is that of the snapshot
left_over : (s : Snapshot) (rows : List Row) (unread more : List ℕ)
    → IsSnapshot s
    → AllByRecursion IsRow rows
    → (begun_with rows ++ unread) ++ more ≡ spelled_snapshot s
    → (later : List Row) × (s.rows ≡ rows ++ later) × (unread ++ more ≡ rows_spelling later ++ 0 ∷ end_rest s)
left_over s rows unread more is each e =
    first_rows rows s.rows (unread ++ more) (end_rest s) each is.rows
    (append_cancel_left head (rows_spelling rows ++ (unread ++ more)) (rows_spelling s.rows ++ 0 ∷ end_rest s)
    (sym (append_assoc head (rows_spelling rows) (unread ++ more))
    ∙ sym (append_assoc (begun_with rows) unread more)
    ∙ e
    ∙ append_assoc head (rows_spelling s.rows) (0 ∷ end_rest s)))

-- the bytes that have come, by what was read
came_passed : (rows : List Row) (all : List ℕ) (r : Reading)
    → HasRead rows all r
    → HasPassed rows r.progress
    → all ≡ begun_with rows ++ r.unread
came_passed rows all r h p = h.came ∙ ap (λ (q : Progress). q.bytes ++ r.unread) p.same

came_none : (all : List ℕ) (r : Reading) → all ≡ r.progress.bytes ++ r.unread → r.progress ≡ nothing → all ≡ r.unread
came_none all r e none = e ∙ ap (λ (q : Progress). q.bytes ++ r.unread) none

module _ (s : Snapshot) (rows : List Row) (all more : List ℕ) (r : Reading) (is : IsSnapshot s)
    (e : all ++ more ≡ spelled_snapshot s) (h : HasRead rows all r) where
  left_passed : HasPassed rows r.progress
      → (later : List Row) × (s.rows ≡ rows ++ later) × (r.unread ++ more ≡ rows_spelling later ++ 0 ∷ end_rest s)
  left_passed p =
      left_over s rows r.unread more is p.each (sym (ap (λ (t : List ℕ). t ++ more) (came_passed rows all r h p)) ∙ e)

  first_read : AreRead rows r.progress → (later : List Row) × (s.rows ≡ rows ++ later)
  first_read (inl none) = (s.rows, sym (ap (λ (rs : List Row). rs ++ s.rows) none.0))
  first_read (inr p) = ((left_passed p).0, (left_passed p).1)

-- the rows that were read are the snapshot's first ones
pub reads_first : (s : Snapshot) (rows : List Row) (all more : List ℕ) (r : Reading)
    → IsSnapshot s
    → all ++ more ≡ spelled_snapshot s
    → HasRead rows all r
    → (later : List Row) × (s.rows ≡ rows ++ later)
reads_first s rows all more r is e h = first_read s rows all more r is e h h.passed

-- ---- nothing is wrong

-- the beginning of a text agrees with it
agrees_beginning : (text bytes more tail : List ℕ) → bytes ++ more ≡ text ++ tail → agrees text bytes ≡ true
agrees_beginning [] bytes more tail e = refl
agrees_beginning (a ∷ text) [] more tail e = refl
agrees_beginning (a ∷ text) (b ∷ bytes) more tail e =
    both a b (agrees text bytes) (first a b (bytes ++ more) (text ++ tail) e)
    (agrees_beginning text bytes more tail (others a b (bytes ++ more) (text ++ tail) e))
  where
    first : (a b : ℕ) (xs ys : List ℕ) → b ∷ xs ≡ a ∷ ys → a ≡ b
    first a b xs ys e = cc

    others : (a b : ℕ) (xs ys : List ℕ) → b ∷ xs ≡ a ∷ ys → xs ≡ ys
    others a b xs ys e = cc

    both : (a b : ℕ) (c : Bool) → a ≡ b → c ≡ true → (nat_eq a b && c) ≡ true
    both a b c e f = and_from (nat_eq a b) c (eq-eqb a b e) f

pub differ : true ≡ false → ⊥
differ e = cc

head_name : (tail : List ℕ) → head ++ tail ≡ name ++ 1 ∷ tail
unfolding head name
head_name tail = refl

head_flawless : (flaw : Flaw) (unread more tail : List ℕ) → unread ++ more ≡ head ++ tail → HasHeadFlaw flaw unread → ⊥
head_flawless Foreign unread more tail e h =
    differ (sym (agrees_beginning name unread more (1 ∷ tail) (e ∙ head_name tail)) ∙ h.1)
head_flawless OtherFormat unread more tail e h = differ (sym (agrees_beginning head unread more tail e) ∙ h.0)
head_flawless BadFrame unread more tail e h = h
head_flawless NotRow unread more tail e h = h
head_flawless NotRising unread more tail e h = h
head_flawless Cut unread more tail e h = h
head_flawless Trailing unread more tail e h = h
head_flawless OtherSum unread more tail e h = h
head_flawless OtherRows unread more tail e h = h
head_flawless AboveCount unread more tail e h = h

-- with no bytes there nothing is bad
nothing_bad : IsBad [] → ⊥
nothing_bad (inl m) = clash (sym nothing_read ∙ malformed_to [] m)
  where
    clash : ◌≡◌ {A = Read Frame} (Err (Short 1)) (Err Malformed) → ⊥
    clash e = cc
nothing_bad (inr old) = clash old.0 old.1
  where
    clash : (rest : List ℕ) → [] ≡ 1 ∷ rest → ⊥
    clash rest e = cc

-- where the end begins nothing is bad but the end
end_not_bad : (unread more y : List ℕ) → unread ++ more ≡ 0 ∷ y → at_end unread ≡ false → IsBad unread → ⊥
end_not_bad [] more y e not_end bad = nothing_bad bad
end_not_bad (b ∷ unread) more y e not_end bad =
    differ (sym (ap (λ (n : ℕ). nat_eq n 0) (first b (unread ++ more) y e)) ∙ not_end)
  where
    first : (b : ℕ) (xs ys : List ℕ) → b ∷ xs ≡ 0 ∷ ys → b ≡ 0
    first b xs ys e = cc

-- where a row begins nothing is bad
pub row_not_bad : (row : Row) (unread more rest : List ℕ)
    → IsFirst (frame_of row) (unread ++ more) rest
    → IsBad unread
    → ⊥
row_not_bad row unread more rest first (inl m) = bad_is_final (frame_of row) unread more rest m first
row_not_bad row unread more rest first (inr old) =
    ok_not_err (front (unread ++ more)) (frame_of row, rest) Old (first_to (unread ++ more) (frame_of row) rest first)
    (old_to (unread ++ more) (old.0 ++ more, ap (λ (t : List ℕ). t ++ more) old.1))

-- a row stands in front of the others
row_then : (row : Row) (later : List Row) (bytes y : List ℕ)
    → IsRow row
    → bytes ≡ rows_spelling (row ∷ later) ++ 0 ∷ y
    → IsFirst (frame_of row) bytes (rows_spelling later ++ 0 ∷ y)
row_then row later bytes y h e =
    subst (λ (t : List ℕ). IsFirst (frame_of row) t (rows_spelling later ++ 0 ∷ y))
    (sym (append_assoc (row_spelling row) (rows_spelling later) (0 ∷ y)) ∙ sym e)
    (row_first row (rows_spelling later ++ 0 ∷ y) h)

pub above : (n m k : ℕ) → n ≡ m → k < m → n ≤ k → ⊥
above n m k e lt le = omega arith

-- the first byte is there already
at_end_more : (unread more : List ℕ) → at_end unread ≡ true → at_end (unread ++ more) ≡ true
at_end_more [] more e = absurd cc
at_end_more (b ∷ unread) more e = e

longer : (unread more y : List ℕ) → unread ++ more ≡ 0 ∷ y → length y ≤ 20 → 21 < length unread → ⊥
longer unread more y e le lt = omega (arith, le, lt, length-append unread more, ap length e)

rows_flawless : (flaw : Flaw) (last : ℕ) (unread more : List ℕ) (later : List Row) (y : List ℕ)
    → length y ≤ 20
    → unread ++ more ≡ rows_spelling later ++ 0 ∷ y
    → AllByRecursion IsRow later
    → AreRising last later
    → HasRowFlaw flaw last unread
    → ⊥
rows_flawless BadFrame last unread more [] y short e each rising h = end_not_bad unread more y e h.0 h.1
rows_flawless BadFrame last unread more (row ∷ later) y short e each rising h =
    row_not_bad row unread more (rows_spelling later ++ 0 ∷ y) (row_then row later (unread ++ more) y each.0 e) h.1
rows_flawless NotRow last unread more [] y short e each rising h =
    no_frame_at_end h.0 y (h.1 ++ more) (unread ++ more) e (first_more h.0 unread h.1 more h.2)
rows_flawless NotRow last unread more (row ∷ later) y short e each rising h =
    h.3 row
    (one_frame h.0 (frame_of row) (unread ++ more) (h.1 ++ more) (rows_spelling later ++ 0 ∷ y)
    (first_more h.0 unread h.1 more h.2) (row_then row later (unread ++ more) y each.0 e)).0
rows_flawless NotRising last unread more [] y short e each rising h =
    no_frame_at_end (frame_of h.0) y (h.1 ++ more) (unread ++ more) e (first_more (frame_of h.0) unread h.1 more h.2)
rows_flawless NotRising last unread more (row ∷ later) y short e each rising h =
    above h.0.1.unique row.1.unique last
    (ap (λ (r : Row). r.1.unique)
    (same_row h.0 row
    (one_frame (frame_of h.0) (frame_of row) (unread ++ more) (h.1 ++ more) (rows_spelling later ++ 0 ∷ y)
    (first_more (frame_of h.0) unread h.1 more h.2) (row_then row later (unread ++ more) y each.0 e)).0))
    rising.0 h.3
rows_flawless Foreign last unread more later y short e each rising h = h
rows_flawless OtherFormat last unread more later y short e each rising h = h
rows_flawless Cut last unread more later y short e each rising h = h
rows_flawless Trailing last unread more [] y short e each rising h = longer unread more y e short h.1
rows_flawless Trailing last unread more (row ∷ later) y short e each rising h =
    differ
    (sym (at_end_more unread more h.0)
    ∙ ap at_end (e ∙ append_assoc (row_spelling row) (rows_spelling later) (0 ∷ y))
    ∙ row_not_end row (rows_spelling later ++ 0 ∷ y))
rows_flawless OtherSum last unread more later y short e each rising h = h
rows_flawless OtherRows last unread more later y short e each rising h = h
rows_flawless AboveCount last unread more later y short e each rising h = h

module _ (s : Snapshot) (rows : List Row) (all more : List ℕ) (q : Reading) (flaw : Flaw) (is : IsSnapshot s)
    (e : all ++ more ≡ spelled_snapshot s) (h : HasRead rows all q) where
  flawless_by : AreRead rows q.progress → HasFlaw flaw q → ⊥
  flawless_by (inl none) has =
      head_flawless flaw q.unread more (rows_spelling s.rows ++ 0 ∷ end_rest s)
      (sym (ap (λ (t : List ℕ). t ++ more) (came_none all q h.came none.1))
      ∙ e
      ∙ append_assoc head (rows_spelling s.rows) (0 ∷ end_rest s))
      (subst (λ (b : Bool). HasFlawIf b flaw q) (ap (λ (p : Progress). is_begun p.bytes) none.1) has)
  flawless_by (inr p) has =
      let left = left_passed s rows all more q is e h p in
      rows_flawless flaw q.progress.last q.unread more left.0 (end_rest s) (end_short s) left.2
      (all_behind rows left.0 (subst (λ (rs : List Row). AllByRecursion IsRow rs) left.1 is.rows))
      (subst (λ (n : ℕ). AreRising n left.0) (sym (ap (λ (g : Progress). g.last) p.same))
      (rising_behind 0 rows left.0 (subst (λ (rs : List Row). AreRising 0 rs) left.1 is.rising)))
      (subst (λ (b : Bool). HasFlawIf b flaw q)
      (ap (λ (g : Progress). is_begun g.bytes) p.same ∙ begun_true (rows_spelling rows)) has)

-- nothing is wrong with what begins a snapshot
pub flawless : (s : Snapshot) (rows : List Row) (all more : List ℕ) (r : Reading) (flaw : Flaw)
    → IsSnapshot s
    → all ++ more ≡ spelled_snapshot s
    → HasRead rows all r
    → HasFlaw flaw (past_head r)
    → ⊥
flawless s rows all more r flaw is e h has =
    let head = read_head rows all r h in flawless_by s rows all more (past_head r) flaw is e head head.passed has

-- ---- all of it

-- the end of a snapshot, behind its rows
abbrev whole : Snapshot → Reading
whole s = record { progress = progress_of s.rows; unread = ending (begun_with s.rows) s.count (length s.rows) }

head_long : (unread rest : List ℕ) → unread ≡ head ++ rest → length unread < 14 → ⊥
head_long unread rest e lt = omega (arith, lt, ap length e, length-append head rest, head_length)

-- if no row stands there, the end does
no_rows : (later : List Row) (unread y : List ℕ)
    → AllByRecursion IsRow later
    → unread ≡ rows_spelling later ++ 0 ∷ y
    → WaitsIf true unread
    → later ≡ []
no_rows [] unread y each e w = refl
no_rows (row ∷ later) unread y each e (inl at) =
    absurd
    (differ (sym at.0
    ∙ ap at_end (e ∙ append_assoc (row_spelling row) (rows_spelling later) (0 ∷ y))
    ∙ row_not_end row (rows_spelling later ++ 0 ∷ y)))
no_rows (row ∷ later) unread y each e (inr partial) =
    absurd
    (partial.no_frame (frame_of row, rows_spelling later ++ 0 ∷ y, row_then row later unread y each.0 e))

same_reading : (p q : Progress) (u v : List ℕ) → p ≡ q → u ≡ v
    → ◌≡◌ {A = Reading} (record { progress = p; unread = u }) (record { progress = q; unread = v })
same_reading p q u v e f = cc

module _ (s : Snapshot) (rows : List Row) (r : Reading) (is : IsSnapshot s)
    (h : HasRead rows (spelled_snapshot s) r) (w : Waits r) where
  all_by : AreRead rows r.progress → (s.rows ≡ rows) × (r ≡ whole s)
  all_by (inl none) =
      absurd
      (head_long r.unread (rows_spelling s.rows ++ 0 ∷ end_rest s)
      (sym (came_none (spelled_snapshot s) r h.came none.1) ∙ append_assoc head (rows_spelling s.rows) (0 ∷ end_rest s))
      (subst (λ (b : Bool). WaitsIf b r.unread) (ap (λ (p : Progress). is_begun p.bytes) none.1) w).1)
  all_by (inr p) =
      let left = left_passed s rows (spelled_snapshot s) [] r is (append-nil (spelled_snapshot s)) h p in
      let unread : r.unread ≡ rows_spelling left.0 ++ 0 ∷ end_rest s = sym (append-nil r.unread) ∙ left.2 in
      let none =
      no_rows left.0 r.unread (end_rest s)
      (all_behind rows left.0 (subst (λ (rs : List Row). AllByRecursion IsRow rs) left.1 is.rows)) unread
      (subst (λ (b : Bool). WaitsIf b r.unread)
      (ap (λ (g : Progress). is_begun g.bytes) p.same ∙ begun_true (rows_spelling rows)) w) in
      let same : s.rows ≡ rows = left.1 ∙ ap (λ (rs : List Row). rows ++ rs) none ∙ append-nil rows in (
        same,
        same_reading r.progress (progress_of s.rows) r.unread (0 ∷ end_rest s)
            (p.same ∙ ap progress_of (sym same))
            (unread ∙ ap (λ (rs : List Row). rows_spelling rs ++ 0 ∷ end_rest s) none),
      )

-- all rows are read
pub reads_all : (s : Snapshot) (rows : List Row) (r : Reading)
    → IsSnapshot s
    → HasRead rows (spelled_snapshot s) r
    → Waits r
    → s.rows ≡ rows
reads_all s rows r is h w = (all_by s rows r is h w h.passed).0

-- ---- the end

has_end_whole : (s : Snapshot) → has_end (whole s) ≡ true
unfolding head
has_end_whole s = refl

less_than : (n : ℕ) → n < n → ⊥
less_than n lt = omega arith

within : (n m k : ℕ) → n ≡ m → n < k → k ≤ m → ⊥
within n m k e lt le = omega arith

few : (rows last count : ℕ) → rows + 0 ≤ last → last ≤ count → count < 2 ^ 64 → rows < 2 ^ 64
few rows last count a b c = omega arith

end_flawless : (s : Snapshot) (flaw : Flaw) → IsSnapshot s → HasEndFlaw flaw (whole s) → ⊥
end_flawless s Cut is h = differ (sym (has_end_whole s) ∙ h)
end_flawless s Trailing is h = less_than 21 h.1
end_flawless s OtherSum is h = h.2 (says_sum s.count (length s.rows) (sum_in s) (sum_fits _))
end_flawless s OtherRows is h =
    h.3
    (says_rows s.count (length s.rows) (sum_in s)
    (few (length s.rows) (last_of 0 s.rows) s.count (few_rows 0 s.rows is.rising) is.within is.fits))
end_flawless s AboveCount is h =
    within (count_at (whole s).unread) s.count (last_of 0 s.rows)
    (says_count s.count (length s.rows) (sum_in s) is.fits) h.4 is.within
end_flawless s Foreign is h = h
end_flawless s OtherFormat is h = h
end_flawless s BadFrame is h = h
end_flawless s NotRow is h = h
end_flawless s NotRising is h = h

-- nothing is wrong with the end
pub ends_well : (s : Snapshot) (rows : List Row) (r : Reading) (flaw : Flaw)
    → IsSnapshot s
    → HasRead rows (spelled_snapshot s) r
    → Waits r
    → HasEndFlaw flaw r
    → ⊥
ends_well s rows r flaw is h w has =
    end_flawless s flaw is (subst (λ (q : Reading). HasEndFlaw flaw q) (all_by s rows r is h w h.passed).1 has)

-- ---- two snapshots

same_snapshot : (xs ys : List Row) (m n : ℕ) → xs ≡ ys → m ≡ n
    → ◌≡◌ {A = Snapshot} (record { rows = xs; count = m }) (record { rows = ys; count = n })
same_snapshot xs ys m n e f = cc

-- no bytes are those of two snapshots
pub one_snapshot : (s t : Snapshot) → IsSnapshot s → IsSnapshot t → spelled_snapshot s ≡ spelled_snapshot t → s ≡ t
one_snapshot s t is it e =
    let left = left_over s t.rows (0 ∷ end_rest t) [] is it.rows (append-nil (spelled_snapshot t) ∙ sym e) in
    let unread : 0 ∷ end_rest t ≡ rows_spelling left.0 ++ 0 ∷ end_rest s = sym (append-nil (0 ∷ end_rest t)) ∙ left.2 in
    let none =
    no_rows left.0 (0 ∷ end_rest t) (end_rest s)
    (all_behind t.rows left.0 (subst (λ (rs : List Row). AllByRecursion IsRow rs) left.1 is.rows)) unread
    (inl (refl, end_long t)) in
    let end : 0 ∷ end_rest t ≡ 0 ∷ end_rest s =
    unread ∙ ap (λ (rs : List Row). rows_spelling rs ++ 0 ∷ end_rest s) none in
    same_snapshot s.rows t.rows s.count t.count
    (left.1 ∙ ap (λ (rs : List Row). t.rows ++ rs) none ∙ append-nil t.rows)
    (sym (says_count s.count (length s.rows) (sum_in s) is.fits)
    ∙ sym (ap count_at end)
    ∙ says_count t.count (length t.rows) (sum_in t) it.fits)
