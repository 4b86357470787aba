-- Bytes that have come, the rows in them, and what is wrong with them.
use Rattle.std.proofs.Common.{◌≡◌, ℕ, Bool, true, List, [], ◌∷◌, ◌++◌, length, refl, ap, sym, subst, ◌∙◌}
use Rattle.std.proofs.Common.{inl, inr, arith, append_assoc, append-nil, Err, IfErr, IfNone, IfSome, IsErr}
use Rattle.std.proofs.Common.{IsErrAnd, None, Ok, Option, Result, Some}
use Rattle.ends.proofs.Written.{written-then}
use Rattle.snapshots.specs.declared.faults.Flaw.{Flaw}
use Rattle.snapshots.specs.declared.faults.SnapshotFault.{SnapshotFault}
use Rattle.snapshots.specs.declared.faults.SnapshotFault.TheVariants as told
use Rattle.snapshots.specs.declared.marks.TableMark.{TableMark}
use Rattle.snapshots.specs.Rows.{Row}
use Rattle.snapshots.specs.Snapshots.{IsSnapshot, head, spelled_snapshot, sum_in}
use Rattle.snapshots.specs.Readings.{Ends, HasEndFlaw, HasFlaw, IsFault, Reading, TakesRow, Waits, fed}
use Rattle.snapshots.specs.Readings.{past_head, place_of, unopened}
use Rattle.snapshots.specs.Histories.{AreRead, HasRead}
use Rattle.snapshots.proofs.Again.{ends_well, flawless}
use Rattle.snapshots.proofs.Reading.{read_head, read_row, read_whole}
use Rattle.snapshot_files.specs.declared.faults.LoadFault.{LoadFault}
use Rattle.snapshot_files.specs.declared.faults.LoadFault.TheVariants.{Flawed, Memory, Unreadable}
use Rattle.snapshot_files.specs.Saving.{snapshot}
use Rattle.snapshot_files.specs.Loading.{IsEndFault, IsLoadFault, come, failures_after_load}

-- what has come, of which these rows were read
pub as_read : (rows : List Row) (r : Reading) → AreRead rows r.progress → HasRead rows (come r) r
as_read rows r read = record { came = refl; passed = read }

-- a row more was read
after_row : (rows : List Row) (row : Row) (before after : Reading)
    → AreRead rows before.progress
    → TakesRow row (past_head before) after
    → HasRead (rows ++ row ∷ []) (come before) after
after_row rows row before after read takes =
    read_row rows (come before) row (past_head before) after
    (read_head rows (come before) before (as_read rows before read)) takes

pub row_come : (rows : List Row) (row : Row) (before after : Reading)
    → AreRead rows before.progress
    → TakesRow row (past_head before) after
    → come after ≡ come before
row_come rows row before after read takes = sym (after_row rows row before after read takes).came

pub row_passed : (rows more : List Row) (row : Row) (before after : Reading)
    → AreRead rows before.progress
    → TakesRow row (past_head before) after
    → more ≡ rows ++ row ∷ []
    → AreRead more after.progress
row_passed rows more row before after read takes e =
    subst (λ (rs : List Row). AreRead rs after.progress) (sym e) (after_row rows row before after read takes).passed

-- no row stands there
after_none : (rows : List Row) (before after : Reading)
    → AreRead rows before.progress
    → after ≡ past_head before
    → HasRead rows (come before) after
after_none rows before after read e =
    subst (λ (r : Reading). HasRead rows (come before) r) (sym e)
    (read_head rows (come before) before (as_read rows before read))

pub none_come : (rows : List Row) (before after : Reading)
    → AreRead rows before.progress
    → after ≡ past_head before
    → come after ≡ come before
none_come rows before after read e = sym (after_none rows before after read e).came

pub none_passed : (rows : List Row) (before after : Reading)
    → AreRead rows before.progress
    → after ≡ past_head before
    → AreRead rows after.progress
none_passed rows before after read e = (after_none rows before after read e).passed

-- something is wrong where reading stands
pub row_flawed : (rows : List Row) (r : Reading) (flaw : Flaw) (byte n : ℕ) (ended : Bool)
    → AreRead rows r.progress
    → HasFlaw flaw (past_head r)
    → byte ≡ place_of flaw (past_head r)
    → n ≡ length rows
    → IsLoadFault (Flawed flaw byte n) (come r) ended
row_flawed rows r flaw byte n ended read has place counted = (
  rows,
  r,
  as_read rows r read,
  counted,
  inl (record {
    flawed = has;
    place = place;
    none = λ s more is e. flawless s rows (come r) more r flaw is e (as_read rows r read) has;
  }),
)

-- something is wrong with the end
pub end_flawed : (rows : List Row) (r : Reading) (flaw : Flaw) (byte n : ℕ) (ended : Bool)
    → AreRead rows r.progress
    → ended ≡ true
    → Waits r
    → HasEndFlaw flaw r
    → byte ≡ place_of flaw r
    → n ≡ length rows
    → IsLoadFault (Flawed flaw byte n) (come r) ended
end_flawed rows r flaw byte n ended read over waits has place counted = (
  rows,
  r,
  as_read rows r read,
  counted,
  inr (record {
    over = over;
    waits = waits;
    flawed = has;
    place = place;
    none = λ s is e.
        ends_well s rows r flaw is (subst (λ (t : List ℕ). HasRead rows t r) e (as_read rows r read)) waits has;
  }),
)

-- ---- what a reader answers

pub some_come : (rows : List Row) (found : Option Row) (row : Row) (before after : Reading)
    → AreRead rows before.progress
    → found ≡ Some row
    → IfSome found (λ (r : Row). TakesRow r (past_head before) after)
    → come after ≡ come before
some_come rows found row before after read e h =
    row_come rows row before after read
    (subst (λ (o : Option Row). IfSome o (λ (r : Row). TakesRow r (past_head before) after)) e h)

pub some_passed : (rows more : List Row) (found : Option Row) (row : Row) (before after : Reading)
    → AreRead rows before.progress
    → found ≡ Some row
    → IfSome found (λ (r : Row). TakesRow r (past_head before) after)
    → more ≡ rows ++ row ∷ []
    → AreRead more after.progress
some_passed rows more found row before after read e h f =
    row_passed rows more row before after read
    (subst (λ (o : Option Row). IfSome o (λ (r : Row). TakesRow r (past_head before) after)) e h) f

not_found : (found : Option Row) (before after : Reading)
    → found ≡ None
    → IfNone found (after ≡ past_head before)
    → after ≡ past_head before
not_found found before after e h = subst (λ (o : Option Row). IfNone o (after ≡ past_head before)) e h

pub nothing_come : (rows : List Row) (found : Option Row) (before after : Reading)
    → AreRead rows before.progress
    → found ≡ None
    → IfNone found (after ≡ past_head before)
    → come after ≡ come before
nothing_come rows found before after read e h =
    none_come rows before after read (not_found found before after e h)

pub nothing_passed : (rows : List Row) (found : Option Row) (before after : Reading)
    → AreRead rows before.progress
    → found ≡ None
    → IfNone found (after ≡ past_head before)
    → AreRead rows after.progress
nothing_passed rows found before after read e h =
    none_passed rows before after read (not_found found before after e h)

pub fault_flawed : (rows : List Row) (r : Reading) (fault : SnapshotFault) (flaw : Flaw) (byte n : ℕ) (ended : Bool)
    → AreRead rows r.progress
    → fault ≡ told.Flawed flaw byte
    → IsFault fault (past_head r)
    → n ≡ length rows
    → IsLoadFault (Flawed flaw byte n) (come r) ended
fault_flawed rows r fault flaw byte n ended read e is counted =
    let h = subst (λ (f : SnapshotFault). IsFault f (past_head r)) e is in
    row_flawed rows r flaw byte n ended read h.0 h.1 counted

-- what holds of the fault that is handed on
pub handed_on : {T : Type 0} (r : Result T LoadFault) (e : LoadFault) (P : LoadFault → Type 0)
    → IsErr r × IsErrAnd r (λ (f : LoadFault). f ≡ e)
    → P e
    → IfErr r P
handed_on (Ok x) e P h p = tt
handed_on (Err f) e P h p = subst P (sym h.1) p

-- ---- pieces

-- what is told of bytes is told of the same bytes by another name
pub told_before : (fault : LoadFault) (xs ys : List ℕ)
    → xs ≡ ys
    → ((ended : Bool) → IsLoadFault fault xs ended)
    → (ended : Bool)
    → IsLoadFault fault ys ended
told_before fault xs ys e h ended = subst (λ (t : List ℕ). IsLoadFault fault t ended) e (h ended)

come_fed : (r : Reading) (piece : List ℕ) → come (fed r piece) ≡ come r ++ piece
come_fed r piece = sym (append_assoc r.progress.bytes r.unread piece)

pub piece_come : (before between after : Reading) (piece : List ℕ)
    → between ≡ fed before piece
    → come after ≡ come between
    → come after ≡ come before ++ piece
piece_come before between after piece e f = f ∙ ap come e ∙ come_fed before piece

pub piece_passed : (rows : List Row) (before after : Reading) (piece : List ℕ)
    → after ≡ fed before piece
    → AreRead rows before.progress
    → AreRead rows after.progress
piece_passed rows before after piece e read =
    subst (λ (r : Reading). AreRead rows r.progress) (sym e) read

pub piece_told : (fault : LoadFault) (before after : Reading) (piece : List ℕ)
    → after ≡ fed before piece
    → ((ended : Bool) → IsLoadFault fault (come after) ended)
    → (ended : Bool)
    → IsLoadFault fault (come before ++ piece) ended
piece_told fault before after piece e h =
    told_before fault (come after) (come before ++ piece) (ap come e ∙ come_fed before piece) h

-- ---- all of them

pub begins_read : (rows : List Row) (r : Reading) → r ≡ unopened → rows ≡ [] → AreRead rows r.progress
begins_read rows r e f = inl (f, ap (λ (q : Reading). q.progress) e)

first_waits : Waits unopened
unfolding head
first_waits = (refl, omega arith)

pub begins_waits : (r : Reading) → r ≡ unopened → Waits r
begins_waits r e = subst Waits (sym e) first_waits

pub begins_came : (before : List ℕ) (r : Reading) → r ≡ unopened → before ≡ before ++ come r
begins_came before r e = sym (append-nil before) ∙ ap (λ (q : Reading). before ++ come q) (sym e)

-- a piece more has come
pub came_more : (before given after xs ys zs : List ℕ)
    → given ≡ before ++ xs
    → after ≡ given ++ ys
    → zs ≡ xs ++ ys
    → after ≡ before ++ zs
came_more before given after xs ys zs e f g =
    written-then before given after xs ys e f ∙ ap (λ (t : List ℕ). before ++ t) (sym g)

-- none has come
pub came_none : (before given after xs : List ℕ)
    → given ≡ before ++ xs
    → after ≡ given ++ []
    → after ≡ before ++ xs
came_none before given after xs e f = f ∙ append-nil given ∙ e

-- what is told after a piece more
pub tells_more : (fault : LoadFault) (before given after xs ys : List ℕ) (ended : Bool)
    → given ≡ before ++ xs
    → after ≡ given ++ ys
    → ((over : Bool) → IsLoadFault fault (xs ++ ys) over)
    → (all : List ℕ) × (after ≡ before ++ all) × IsLoadFault fault all ended
tells_more fault before given after xs ys ended e f h =
    (xs ++ ys, written-then before given after xs ys e f, h ended)

-- ---- the end

-- what has come is all of a snapshot
all_loaded : (rows : List Row) (r : Reading) (mark : TableMark)
    → AreRead rows r.progress
    → Ends mark r
    → IsSnapshot (snapshot rows mark.count) × (come r ≡ spelled_snapshot (snapshot rows mark.count))
    × (mark.sum ≡ sum_in (snapshot rows mark.count))
all_loaded rows r mark read ends =
    read_whole (snapshot rows mark.count) (come r) mark r (as_read rows r read) ends refl

pub loaded_whole : (rows : List Row) (r : Reading) (mark : TableMark)
    → AreRead rows r.progress
    → Ends mark r
    → IsSnapshot (snapshot rows mark.count)
loaded_whole rows r mark read ends = (all_loaded rows r mark read ends).0

pub loaded_bytes : (rows : List Row) (r : Reading) (mark : TableMark) (before given : List ℕ)
    → AreRead rows r.progress
    → Ends mark r
    → given ≡ before ++ come r
    → given ≡ before ++ spelled_snapshot (snapshot rows mark.count)
loaded_bytes rows r mark before given read ends e =
    e ∙ ap (λ (t : List ℕ). before ++ t) (all_loaded rows r mark read ends).1

pub loaded_sum : (rows : List Row) (r : Reading) (mark : TableMark)
    → AreRead rows r.progress
    → Ends mark r
    → mark.sum ≡ sum_in (snapshot rows mark.count)
loaded_sum rows r mark read ends = (all_loaded rows r mark read ends).2

-- what is told of the end is told of all that has come
pub end_told : (fault : LoadFault) (rows : List Row) (r : Reading) (n : ℕ) (before given : List ℕ) (ended : Bool)
    → AreRead rows r.progress
    → Waits r
    → ended ≡ true
    → given ≡ before ++ come r
    → n ≡ length rows
    → IsEndFault fault n r
    → (all : List ℕ) × (given ≡ before ++ all) × IsLoadFault fault all ended
end_told (Flawed flaw byte m) rows r n before given ended read waits over e counted is =
    (come r, e, end_flawed rows r flaw byte m ended read over waits is.1 is.2 (is.0 ∙ counted))
end_told Memory rows r n before given ended read waits over e counted is = (come r, e, tt)
end_told (Unreadable why) rows r n before given ended read waits over e counted is = absurd is

-- no read has failed then
pub end_counts : (fault : LoadFault) (rows : ℕ) (r : Reading) (n : ℕ)
    → IsEndFault fault rows r
    → n ≡ failures_after_load fault n
end_counts (Flawed flaw byte m) rows r n is = refl
end_counts Memory rows r n is = refl
end_counts (Unreadable why) rows r n is = absurd is
