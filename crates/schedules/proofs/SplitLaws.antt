-- Bytes split at a space, and texts split into lines.
use Rattle.std.proofs.Common.{◌≡◌, ℕ, ◌≤◌, inl, inr, Bool, true, false, cond, List, [], ◌∷◌, ◌++◌, length, Option, None}
use Rattle.std.proofs.Common.{Some, refl, ap, arith}
use Rattle.std.specs.Prelude.{◌==◌, not, IsTrue, option_map}
use Rattle.std.specs.List.{list_all, onto_first}
use Rattle.std.proofs.lemmas.Bool.{and_parts, and_from, eqb-true, not-true, not_from_false}
use Rattle.std.proofs.lemmas.Option.{same_Some}
use Rattle.proto.specs.Grammar.{has_no_lf}
use Rattle.schedules.specs.Splits.{lf, split_once, lines}
use Rattle.schedules.specs.SpelledSchedules.{AreLines}

-- bytes are split after a part that doesn't have the byte
pub split_read : (byte : ℕ) (front rest : List ℕ)
    → byte == byte ≡ true
    → list_all (λ b. not (b == byte)) front ≡ true
    → split_once byte (front ++ byte ∷ rest) ≡ Some (front, rest)
split_read byte [] rest same free = rw same refl
split_read byte (b ∷ bs) rest same free =
    let parts = and_parts (not (b == byte)) (list_all (λ b. not (b == byte)) bs) free in
    rw (not-true _ parts.0, split_read byte bs rest same parts.1) refl

-- what was split is the two parts with the byte between them
pub split_spelled : (byte : ℕ) (bytes front rest : List ℕ)
    → split_once byte bytes ≡ Some (front, rest)
    → bytes ≡ front ++ byte ∷ rest
split_spelled byte [] front rest h = cc
split_spelled byte (b ∷ bs) front rest h =
    by_test (b == byte) refl (split_once byte bs) refl h (λ f r is. split_spelled byte bs f r is)
  where
    by_test : (t : Bool)
        → b == byte ≡ t
        → (o : Option (List ℕ × List ℕ))
        → split_once byte bs ≡ o
        → cond {A = Option (List ℕ × List ℕ)} t (Some ([], bs)) (option_map (λ c. (b ∷ c.0, c.1)) o) ≡ Some
        (front, rest)
        → ((f r : List ℕ) → split_once byte bs ≡ Some (f, r) → bs ≡ f ++ byte ∷ r)
        → b ∷ bs ≡ front ++ byte ∷ rest
    by_test true here o is e later =
        let pair = same_Some {A = List ℕ × List ℕ} ([], bs) (front, rest) e in
        let none : [] ≡ front = ap (λ (p : List ℕ × List ℕ). p.0) pair in
        let all : bs ≡ rest = ap (λ (p : List ℕ × List ℕ). p.1) pair in
        rw (← none, ← all, eqb-true b byte here) refl
    by_test false not_here None is e later = cc
    by_test false not_here (Some c) is e later =
        let pair = same_Some {A = List ℕ × List ℕ} (b ∷ c.0, c.1) (front, rest) e in
        let first : b ∷ c.0 ≡ front = ap (λ (p : List ℕ × List ℕ). p.0) pair in
        let all : c.1 ≡ rest = ap (λ (p : List ℕ × List ℕ). p.1) pair in
        rw (← first, ← all) (ap (λ t. b ∷ t) (later c.0 c.1 is))

-- the first line ends at the first LF
line_read : (line rest : List ℕ) → IsTrue (has_no_lf line) → lines (line ++ lf ∷ rest) ≡ line ∷ lines rest
line_read [] rest free = refl
line_read (b ∷ bs) rest free =
    let parts = and_parts (not (b == lf)) (has_no_lf bs) free in
    rw (not-true _ parts.0, line_read bs rest parts.1) refl

-- bytes without an LF are one line
whole_line : (line : List ℕ) → IsTrue (has_no_lf line) → 1 ≤ length line → lines line ≡ line ∷ []
whole_line [] free some = absurd (omega arith)
whole_line (b ∷ []) free some = let parts = and_parts (not (b == lf)) true free in rw (not-true _ parts.0) refl
whole_line (b ∷ x ∷ xs) free some =
    let parts = and_parts (not (b == lf)) (has_no_lf (x ∷ xs)) free in
    rw (not-true _ parts.0, whole_line (x ∷ xs) parts.1 (omega arith)) refl

-- the lines of a text are those that it is split into
pub lines_read : (all : List (List ℕ)) (text : List ℕ) → AreLines all text → lines text ≡ all
lines_read [] text h = rw h refl
lines_read (line ∷ later) text (free, h) = elim h [
  | inl (rest, is, more) ↦ rw (is, line_read line rest free) (ap (λ ls. line ∷ ls) (lines_read later rest more))
  | inr (is, some, last) ↦ rw (is, last) (whole_line line free some)
]

-- a byte more at the front of the first line
one_more_byte : (b : ℕ) (all : List (List ℕ)) (bs : List ℕ)
    → b == lf ≡ false
    → AreLines all bs
    → AreLines (onto_first b all) (b ∷ bs)
one_more_byte b [] bs other h =
    (and_from _ _ (not_from_false _ other) refl, inr (ap (λ t. b ∷ t) h, omega arith, refl))
one_more_byte b (line ∷ later) bs other (free, h) = (
  and_from (not (b == lf)) (has_no_lf line) (not_from_false _ other) free,
  elim h [
    | inl (rest, is, more) ↦ inl (rest, ap (λ t. b ∷ t) is, more)
    | inr (is, some, last) ↦ inr (ap (λ t. b ∷ t) is, omega arith, last)
  ],
)

-- what a text is split into are its lines
pub lines_spelled : (text : List ℕ) → AreLines (lines text) text
lines_spelled [] = refl
lines_spelled (b ∷ bs) = by_test (b == lf) refl (lines_spelled bs)
  where
    by_test : (t : Bool)
        → b == lf ≡ t
        → AreLines (lines bs) bs
        → AreLines (cond t ([] ∷ lines bs) (onto_first b (lines bs))) (b ∷ bs)
    by_test true here later = (refl, inl (bs, ap (λ x. x ∷ bs) (eqb-true b lf here), later))
    by_test false other later = one_more_byte b (lines bs) bs other later
