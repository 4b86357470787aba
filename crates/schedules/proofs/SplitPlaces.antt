-- Bytes split at the first place of a byte.
use Rattle.std.proofs.Common.{cond, ◌≡◌, ℕ, zero, suc, ◌<◌, Bool, true, false, nat_eq, List, [], ◌∷◌, length, take}
use Rattle.std.proofs.Common.{drop, get_or, Option, None, Some, option_map, refl, ap, arith}
use Rattle.std.specs.Prelude.{MatchOption}
use Rattle.std.specs.List.{onto_first}
use Rattle.memchr.specs.Find.{IsFirstByte, is_byte}
use Rattle.schedules.specs.Splits.{lf, split_once, lines, parts}
use Rattle.std.proofs.lemmas.Bool.{false_from_ne_true}

split_here : (byte : ℕ) (bytes : List ℕ) (k : ℕ)
    → k < length bytes
    → ((j : ℕ) → j < k → nat_eq (get_or bytes j 0) byte ≡ false)
    → nat_eq (get_or bytes k 0) byte ≡ true
    → split_once byte bytes ≡ Some (take k bytes, drop (suc k) bytes)
split_here byte [] k low before here = absurd (omega arith)
split_here byte (b ∷ bs) zero low before here = rw here refl
split_here byte (b ∷ bs) (suc k) low before here =
    let no : nat_eq b byte ≡ false = before 0 (omega arith) in
    rw no (rw (split_here byte bs k (omega arith) (λ j h. before (suc j) (omega arith)) here) refl)

split_nowhere : (byte : ℕ) (bytes : List ℕ)
    → ((j : ℕ) → j < length bytes → nat_eq (get_or bytes j 0) byte ≡ false)
    → split_once byte bytes ≡ None
split_nowhere byte [] before = refl
split_nowhere byte (b ∷ bs) before =
    let no : nat_eq b byte ≡ false = before 0 (omega arith) in
    rw no (rw (split_nowhere byte bs (λ j h. before (suc j) (omega arith))) refl)

-- what a search for a byte finds is where the bytes are split
pub split_from_first : (byte : ℕ) (bytes : List ℕ) (r : Option ℕ)
    → IsFirstByte (is_byte byte) bytes r
    → split_once byte bytes ≡ option_map (λ at. (take at bytes, drop (suc at) bytes)) r
split_from_first byte bytes None h =
    split_nowhere byte bytes (λ j below. false_from_ne_true _ (h j (omega arith) below))
split_from_first byte bytes (Some k) h =
    let low : k < length bytes = h.0.high in
    split_here byte bytes k low (λ j below. false_from_ne_true _ (h.0.before j (omega arith) below)) h.1

abbrev onto : ℕ → List ℕ × List ℕ → List ℕ × List ℕ
onto b c = (b ∷ c.0, c.1)

later_line : (o : Option (List ℕ × List ℕ)) (b : ℕ) (ls : List (List ℕ)) (bs : List ℕ)
    → MatchOption o (ls ≡ bs ∷ []) (λ p. ls ≡ p.0 ∷ lines p.1)
    → MatchOption (option_map (onto b) o) (onto_first b ls ≡ (b ∷ bs) ∷ []) (λ p. onto_first b ls ≡ p.0 ∷ lines p.1)
later_line None b ls bs h = ap (onto_first b) h
later_line (Some p) b ls bs h = ap (onto_first b) h

abbrev by_test : Bool → ℕ → List ℕ → Option (List ℕ × List ℕ)
by_test test b bs = cond test (Some ([], bs)) (option_map (onto b) (split_once lf bs))

by_byte : (test : Bool) (b : ℕ) (bs : List ℕ)
    → (0 < length bs → MatchOption (split_once lf bs) (lines bs ≡ bs ∷ []) (λ p. lines bs ≡ p.0 ∷ lines p.1))
    → MatchOption (by_test test b bs) (cond test ([] ∷ lines bs) (onto_first b (lines bs)) ≡ (b ∷ bs) ∷ [])
    (λ p. cond test ([] ∷ lines bs) (onto_first b (lines bs)) ≡ p.0 ∷ lines p.1)
by_byte true b bs ih = refl
by_byte false b [] ih = refl
by_byte false b (x ∷ xs) ih = later_line (split_once lf (x ∷ xs)) b (lines (x ∷ xs)) (x ∷ xs) (ih (omega arith))

lines_by_cut : (text : List ℕ)
    → 0 < length text
    → MatchOption (split_once lf text) (lines text ≡ text ∷ []) (λ p. lines text ≡ p.0 ∷ lines p.1)
lines_by_cut [] some = absurd (omega arith)
lines_by_cut (b ∷ bs) some = by_byte (nat_eq b lf) b bs (lines_by_cut bs)

-- the first line is what stands before the first LF
pub lines_at : (text : List ℕ) (p : List ℕ × List ℕ)
    → 0 < length text
    → Some p ≡ split_once lf text
    → lines text ≡ p.0 ∷ lines p.1
lines_at text p some is = rw (← is) at (lines_by_cut text some)

-- if there is no LF, all is one line
pub lines_whole : (text : List ℕ) → 0 < length text → None ≡ split_once lf text → lines text ≡ text ∷ []
lines_whole text some is = rw (← is) at (lines_by_cut text some)

-- the first part ends with the first LF
pub parts_at : (bytes : List ℕ) (k : ℕ)
    → k < length bytes
    → ((j : ℕ) → j < k → nat_eq (get_or bytes j 0) lf ≡ false)
    → nat_eq (get_or bytes k 0) lf ≡ true
    → parts bytes ≡ take (suc k) bytes ∷ parts (drop (suc k) bytes)
parts_at [] k low before here = absurd (omega arith)
parts_at (b ∷ bs) zero low before here = rw here refl
parts_at (b ∷ bs) (suc k) low before here =
    let no : nat_eq b lf ≡ false = before 0 (omega arith) in
    rw no (rw (parts_at bs k (omega arith) (λ j h. before (suc j) (omega arith)) here) refl)

-- if there is no LF, all is one part
pub parts_whole : (bytes : List ℕ)
    → 0 < length bytes
    → ((j : ℕ) → j < length bytes → nat_eq (get_or bytes j 0) lf ≡ false)
    → parts bytes ≡ bytes ∷ []
parts_whole [] some before = absurd (omega arith)
parts_whole (b ∷ []) some before = let no : nat_eq b lf ≡ false = before 0 (omega arith) in rw no refl
parts_whole (b ∷ x ∷ xs) some before =
    let no : nat_eq b lf ≡ false = before 0 (omega arith) in
    rw no (ap (onto_first b) (parts_whole (x ∷ xs) (omega arith) (λ j h. before (suc j) (omega arith))))
