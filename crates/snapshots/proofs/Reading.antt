-- Reading a snapshot, whatever bytes come.
use Rattle.std.proofs.Common.{◌≡◌, ◌⊎◌, ℕ, ◌+◌, ◌<◌, ◌≤◌, ◌^◌, List, [], ◌∷◌, ◌++◌, length, take, drop, refl, ap, sym}
use Rattle.std.proofs.Common.{subst, ◌∙◌, arith, inl, inr, Bool, true, false, append_assoc, append-nil, length-append}
use Rattle.std.proofs.Common.{Result, Ok, Err, nat_eq, nat_le, ◌&&◌, if◌then◌else◌}
use Rattle.std.proofs.lemmas.Bool.{and_parts, eqb-true, leb-true}
use Rattle.std.specs.List.{AllByRecursion, flat_map}
use Rattle.snapshots.specs.declared.marks.TableMark.{TableMark}
use Rattle.snapshots.specs.Sums.{sum_of}
use Rattle.snapshots.specs.Rows.{Row, IsRow, row_spelling, rows_spelling}
use Rattle.snapshots.specs.Snapshots.{AreRising, IsSnapshot, Snapshot, begun_with, counts, ending, head, last_of}
use Rattle.snapshots.specs.Snapshots.{spelled_snapshot, sum_in}
use Rattle.snapshots.specs.Progress.{Progress, nothing, opened, with_row, progress_of, is_begun}
use Rattle.snapshots.specs.Readings.{Ends, Reading, TakesRow, agrees, fed, has_head, past_head, unopened}
use Rattle.snapshots.specs.Histories.{AreRead, HasPassed, HasRead}
use Rattle.snapshots.proofs.Passing.{passed_none, passed_row, passed_whole}

-- ---- the head

-- behind a head there are bytes
pub begun_true : (rest : List ℕ) → is_begun (head ++ rest) ≡ true
unfolding head
begun_true rest = refl

pub head_length : length head ≡ 14
unfolding head
head_length = refl

-- a text that agrees with all of what stands there stands there
agrees_front : (text bytes : List ℕ) → agrees text bytes ≡ true → length text ≤ length bytes
    → bytes ≡ text ++ drop (length text) bytes
agrees_front [] bytes e le = refl
agrees_front (a ∷ text) [] e le = absurd (omega (arith, le))
agrees_front (a ∷ text) (b ∷ bytes) e le =
    let h = and_parts (nat_eq a b) (agrees text bytes) e in
    first a b bytes (text ++ drop (length text) bytes) (eqb-true a b h.0)
    (agrees_front text bytes h.1 (omega (arith, le)))
  where
    first : (a b : ℕ) (xs ys : List ℕ) → a ≡ b → xs ≡ ys → b ∷ xs ≡ a ∷ ys
    first a b xs ys e f = cc

-- the head stands there, and the rest behind it
head_stands : (bytes : List ℕ) → has_head bytes ≡ true → bytes ≡ head ++ drop 14 bytes
head_stands bytes e =
    let h = and_parts (agrees head bytes) (nat_le 14 (length bytes)) e in
    agrees_front head bytes h.0 (long (length head) (length bytes) head_length h.1)
    ∙ ap (λ (n : ℕ). head ++ drop n bytes) head_length
  where
    long : (n k : ℕ) → n ≡ 14 → nat_le 14 k ≡ true → n ≤ k
    long n k e le = rw e (leb-true 14 k le)

-- if nothing was read there is no row
not_begun : (rows : List Row) (p : Progress) → AreRead rows p → is_begun p.bytes ≡ false → (rows ≡ []) × (p ≡ nothing)
not_begun rows p (inl none) e = none
not_begun rows p (inr h) e =
    absurd (differ (sym (begun_true (rows_spelling rows)) ∙ sym (ap (λ (q : Progress). is_begun q.bytes) h.same) ∙ e))
  where
    differ : true ≡ false → ⊥
    differ e = cc

-- if anything was read the head was
pub begun_passed : (rows : List Row) (p : Progress) → AreRead rows p → is_begun p.bytes ≡ true → HasPassed rows p
begun_passed rows p (inr h) e = h
begun_passed rows p (inl none) e = absurd (differ (sym (ap (λ (q : Progress). is_begun q.bytes) none.1) ∙ e))
  where
    differ : false ≡ true → ⊥
    differ e = cc

-- ---- each call

pub read_none : HasRead [] [] unopened
read_none = record { came = refl; passed = inl (refl, refl) }

pub read_piece : (rows : List Row) (all piece : List ℕ) (r : Reading)
    → HasRead rows all r
    → HasRead rows (all ++ piece) (fed r piece)
read_piece rows all piece r h = record {
  came = ap (λ (t : List ℕ). t ++ piece) h.came ∙ append_assoc r.progress.bytes r.unread piece;
  passed = h.passed;
}

module _ (rows : List Row) (all : List ℕ) (r : Reading) (h : HasRead rows all r) where
  by_tests : (b c : Bool)
      → is_begun r.progress.bytes ≡ b
      → has_head r.unread ≡ c
      → HasRead rows all (if b then r else if c then record { progress = opened; unread = drop 14 r.unread } else r)
  by_tests true c e f = h
  by_tests false false e f = h
  by_tests false true e f =
      let none = not_begun rows r.progress h.passed e in
      record {
        came = h.came ∙ ap (λ (p : Progress). p.bytes ++ r.unread) none.1 ∙ head_stands r.unread f;
        passed = inr (subst (λ (rs : List Row). HasPassed rs opened) (sym none.0) passed_none);
      }

-- with the head read, if it stands there, nothing else has come
pub read_head : (rows : List Row) (all : List ℕ) (r : Reading) → HasRead rows all r → HasRead rows all (past_head r)
read_head rows all r h = by_tests rows all r h (is_begun r.progress.bytes) (has_head r.unread) refl refl

pub read_row : (rows : List Row) (all : List ℕ) (row : Row) (before after : Reading)
    → HasRead rows all before
    → TakesRow row before after
    → HasRead (rows ++ row ∷ []) all after
read_row rows all row before after h t = record {
  came =
      h.came
      ∙ ap (λ (x : List ℕ). before.progress.bytes ++ x) t.spelled
      ∙ sym (append_assoc before.progress.bytes (row_spelling row) after.unread)
      ∙ sym (ap (λ (p : Progress). p.bytes ++ after.unread) t.passed);
  passed =
      inr (subst (λ (p : Progress). HasPassed (rows ++ row ∷ []) p) (sym t.passed)
      (passed_row rows before.progress row (begun_passed rows before.progress h.passed t.begun) t.in_range t.rises));
}

-- with an end that is right, all that has come is the snapshot
pub read_whole : (s : Snapshot) (all : List ℕ) (mark : TableMark) (r : Reading)
    → HasRead s.rows all r
    → Ends mark r
    → mark.count ≡ s.count
    → IsSnapshot s × (all ≡ spelled_snapshot s) × (mark.sum ≡ sum_in s)
read_whole s all mark r h e same =
    let p = begun_passed s.rows r.progress h.passed e.begun in (
      record {
        rows = p.each;
        rising = p.rising;
        within =
            subst (λ (n : ℕ). last_of 0 s.rows ≤ n) same
            (subst (λ (q : Progress). q.last ≤ mark.count) p.same e.within);
        fits = subst (λ (n : ℕ). n < 2 ^ 64) same e.fits;
      },
      h.came
          ∙ ap (λ (x : List ℕ). r.progress.bytes ++ x) e.spelled
          ∙ ap (λ (n : ℕ). r.progress.bytes ++ ending r.progress.bytes n r.progress.rows) same
          ∙ passed_whole s r.progress p,
      e.sum
          ∙ ap (λ (n : ℕ). sum_of (r.progress.bytes ++ counts n r.progress.rows)) same
          ∙ ap (λ (q : Progress). sum_of (q.bytes ++ counts s.count q.rows)) p.same,
    )
