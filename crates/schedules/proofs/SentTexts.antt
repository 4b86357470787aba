-- What a transcript shows of the bytes that a connection was sent: a line for each part, and the same lines for no
-- other bytes.
use Rattle.std.proofs.Common.{◌≡◌, ℕ, ◌+◌, ◌/◌, ◌%◌, inl, inr, Bool, true, false, cond, List, [], ◌∷◌, ◌++◌, map, drop}
use Rattle.std.proofs.Common.{Some, refl, ap, sym, ◌∙◌, arith, nat_lt, append_assoc}
use Rattle.std.specs.Prelude.{◌==◌, not, IsTrue, flat_map, codes}
use Rattle.std.specs.Char.{digit_char}
use Rattle.std.specs.List.{list_all, onto_first}
use Rattle.std.proofs.lemmas.Bool.{cases_lt, cases_Bool, and_parts, and_from, ne_eqb, not_from_false, lt-ltb, le-ltb}
use Rattle.std.proofs.lemmas.List.Folds.{list_all-append}
use Rattle.std.proofs.lemmas.Option.{same_Some}
use Rattle.proto.specs.Grammar.{has_no_lf}
use Rattle.schedules.specs.Splits.{lf, cr, lines, parts}
use Rattle.schedules.specs.Escapes.{backslash, is_printable, escape, unescape}
use Rattle.schedules.specs.Printing.{part_line, sent_text}
use Rattle.schedules.specs.SpelledSchedules.{AreLines}
use Rattle.schedules.proofs.SplitLaws.{lines_read}
use Rattle.schedules.proofs.EscapeLaws.{escaped_spells, spelled_bytes_read}

-- a digit is no LF
digit_no_lf : (d : ℕ) → not (digit_char d == lf) ≡ true
digit_no_lf d = elim (cases_lt d 10) [
  | inl low ↦ rw (lt-ltb d 10 low) (not_from_false _ (ne_eqb (48 + d) lf (λ e. omega arith)))
  | inr high ↦ rw (le-ltb d 10 high) (not_from_false _ (ne_eqb (87 + d) lf (λ e. omega arith)))
]

-- nothing that a transcript shows for a byte has an LF
escape_no_lf : (b : ℕ) → IsTrue (has_no_lf (escape b))
escape_no_lf b = elim (cases_Bool (b == backslash)) [
  | inl here ↦ rw here refl
  | inr not_backslash ↦ elim (cases_Bool (b == cr)) [
    | inl here ↦ rw (not_backslash, here) refl
    | inr not_cr ↦ elim (cases_Bool (b == lf)) [
      | inl here ↦ rw (not_backslash, not_cr, here) refl
      | inr not_lf ↦ elim (cases_Bool (is_printable b)) [
        | inl printable ↦ rw (not_backslash, not_cr, not_lf, printable) (and_from _ _ (not_from_false _ not_lf) refl)
        | inr other ↦
            rw (not_backslash, not_cr, not_lf, other)
            (and_from _ _ (digit_no_lf (b / 16)) (and_from _ _ (digit_no_lf (b % 16)) refl))
      ]
    ]
  ]
]

escapes_no_lf : (bytes : List ℕ) → IsTrue (has_no_lf (flat_map escape bytes))
escapes_no_lf [] = refl
escapes_no_lf (b ∷ bytes) =
    list_all-append (λ c. not (c == lf)) (escape b) (flat_map escape bytes)
    ∙ and_from (has_no_lf (escape b)) (has_no_lf (flat_map escape bytes)) (escape_no_lf b) (escapes_no_lf bytes)

-- the line of a part
abbrev pub shown_part : List ℕ → List ℕ
shown_part part = codes "| " ++ flat_map escape part

are_parts : (ps : List (List ℕ)) → AreLines (map shown_part ps) (flat_map part_line ps)
are_parts [] = refl
are_parts (p ∷ ps) =
    let grouped : flat_map part_line (p ∷ ps) ≡ shown_part p ++ lf ∷ flat_map part_line ps =
    ap (λ t. codes "| " ++ t) (append_assoc (flat_map escape p) (lf ∷ []) (flat_map part_line ps)) in
    (escapes_no_lf p, inl (flat_map part_line ps, grouped, are_parts ps))

-- the lines are those of the parts
pub lines_of_sent : (sent : List ℕ) → lines (sent_text sent) ≡ map shown_part (parts sent)
lines_of_sent sent = lines_read (map shown_part (parts sent)) (sent_text sent) (are_parts (parts sent))

abbrev joined : List (List ℕ) → List ℕ
joined ps = flat_map (λ part. part) ps

onto_joined : (b : ℕ) (ps : List (List ℕ)) → joined (onto_first b ps) ≡ b ∷ joined ps
onto_joined b [] = refl
onto_joined b (p ∷ ps) = refl

-- the parts together are the bytes
parts_joined : (sent : List ℕ) → joined (parts sent) ≡ sent
parts_joined [] = refl
parts_joined (b ∷ bs) = by_test (b == lf) (parts_joined bs)
  where
    by_test : (t : Bool)
        → joined (parts bs) ≡ bs
        → joined (cond t ((b ∷ []) ∷ parts bs) (onto_first b (parts bs))) ≡ b ∷ bs
    by_test true rest = ap (λ t. b ∷ t) rest
    by_test false rest = onto_joined b (parts bs) ∙ ap (λ t. b ∷ t) rest

abbrev are_bytes : List ℕ → Bool
are_bytes bytes = list_all (λ b. nat_lt b 256) bytes

onto_bytes : (b : ℕ) (ps : List (List ℕ))
    → nat_lt b 256 ≡ true
    → list_all are_bytes ps ≡ true
    → list_all are_bytes (onto_first b ps) ≡ true
onto_bytes b [] small h = and_from _ _ (and_from _ _ small refl) refl
onto_bytes b (p ∷ ps) small h =
    let both = and_parts (are_bytes p) (list_all are_bytes ps) h in
    and_from _ _ (and_from _ _ small both.0) both.1

parts_bytes : (sent : List ℕ) → are_bytes sent ≡ true → list_all are_bytes (parts sent) ≡ true
parts_bytes [] h = refl
parts_bytes (b ∷ bs) h =
    let both = and_parts (nat_lt b 256) (are_bytes bs) h in by_test (b == lf) both.0 (parts_bytes bs both.1)
  where
    by_test : (t : Bool)
        → nat_lt b 256 ≡ true
        → list_all are_bytes (parts bs) ≡ true
        → list_all are_bytes (cond t ((b ∷ []) ∷ parts bs) (onto_first b (parts bs))) ≡ true
    by_test true small rest = and_from _ _ (and_from _ _ small refl) rest
    by_test false small rest = onto_bytes b (parts bs) small rest

read_back : (bytes : List ℕ) → are_bytes bytes ≡ true → unescape (flat_map escape bytes) ≡ Some bytes
read_back bytes small = spelled_bytes_read bytes (flat_map escape bytes) (escaped_spells bytes small)

same_part : (p q : List ℕ) → are_bytes p ≡ true → are_bytes q ≡ true → shown_part p ≡ shown_part q → p ≡ q
same_part p q one two e =
    let texts : flat_map escape p ≡ flat_map escape q = ap (λ (t : List ℕ). drop 2 t) e in
    same_Some p q (sym (read_back p one) ∙ ap unescape texts ∙ read_back q two)

both_same : (p q : List ℕ) (ps qs : List (List ℕ)) → p ≡ q → ps ≡ qs → p ∷ ps ≡ q ∷ qs
both_same p q ps qs e f = rw (e, f) refl

same_parts : (ps qs : List (List ℕ))
    → list_all are_bytes ps ≡ true
    → list_all are_bytes qs ≡ true
    → map shown_part ps ≡ map shown_part qs
    → ps ≡ qs
same_parts [] [] one two e = refl
same_parts [] (q ∷ qs) one two e = absurd cc
same_parts (p ∷ ps) [] one two e = absurd cc
same_parts (p ∷ ps) (q ∷ qs) one two e =
    let mine = and_parts (are_bytes p) (list_all are_bytes ps) one in
    let yours = and_parts (are_bytes q) (list_all are_bytes qs) two in
    let firsts : shown_part p ≡ shown_part q = cc in
    let others : map shown_part ps ≡ map shown_part qs = cc in
    both_same p q ps qs (same_part p q mine.0 yours.0 firsts) (same_parts ps qs mine.1 yours.1 others)

-- the same text is shown for no other bytes
pub sent_text_tells : (x y : List ℕ) → are_bytes x ≡ true → are_bytes y ≡ true → sent_text x ≡ sent_text y → x ≡ y
sent_text_tells x y one two e =
    let shown : map shown_part (parts x) ≡ map shown_part (parts y) =
    sym (lines_of_sent x) ∙ ap lines e ∙ lines_of_sent y in
    let same : parts x ≡ parts y = same_parts (parts x) (parts y) (parts_bytes x one) (parts_bytes y two) shown in
    sym (parts_joined x) ∙ ap joined same ∙ parts_joined y
