-- Texts that spell bytes: what spells them is read as them, and what is read was spelled so.
use Rattle.std.proofs.Common.{◌≡◌, ℕ, zero, suc, ◌+◌, ◌-◌, ◌*◌, ◌/◌, ◌%◌, ◌<◌, ◌≤◌, inl, inr, true, false, cond, List}
use Rattle.std.proofs.Common.{[], ◌∷◌, ◌++◌, length, Option, None, Some, refl, ap, sym, ◌∙◌, subst, arith, nat_le}
use Rattle.std.proofs.Common.{nat_lt, length-append, lit<, append-nil}
use Rattle.std.specs.Prelude.{◌==◌, ◌&&◌, IsTrue, flat_map, option_and_then}
use Rattle.std.specs.Char.{digit_char}
use Rattle.std.specs.List.{list_all}
use Rattle.std.proofs.lemmas.Bool.{cases_lt, cases_Bool, and_parts, leb-true, ltb-true, eqb-true, le-leb, lt-leb}
use Rattle.std.proofs.lemmas.Bool.{lt-ltb, le-ltb, ne_eqb}
use Rattle.std.proofs.lemmas.Option.{same_Some}
use Rattle.schedules.specs.Splits.{lf, cr}
use Rattle.schedules.specs.Escapes.{backslash, is_printable, escape, hexadecimal, hex_digit, hex_byte, escaped_byte}
use Rattle.schedules.specs.Escapes.{front_byte, unescape_upto, unescape, one_byte, SpellsByte, SpellsBytes}

-- a digit below 16 is read from the character that writes it
digit_read : (d : ℕ) → d < 16 → hex_digit (digit_char d) ≡ Some d
digit_read d small = elim (cases_lt d 10) [
  | inl low ↦
      let is : 48 + d - 48 ≡ d = omega arith in
      rw (lt-ltb d 10 low, le-leb 48 (48 + d) (omega arith), le-leb (48 + d) 57 (omega arith), is) refl
  | inr high ↦
      let is : 87 + d - 97 + 10 ≡ d = omega arith in
      let over : nat_le (87 + d) 57 ≡ false = lt-leb (87 + d) 57 (omega arith) in
      rw (
        le-ltb d 10 high,
        le-leb 48 (87 + d) (omega arith),
        over,
        le-leb 97 (87 + d) (omega arith),
        le-leb (87 + d)
            102 (omega arith),
        is,
      ) refl
]

-- and no other character is read as it
digit_spelled : (c d : ℕ) → hex_digit c ≡ Some d → (c ≡ digit_char d) × (d < 16)
digit_spelled c d h = elim (cases_Bool (nat_le 48 c && nat_le c 57)) [
  | inl low ↦
      let parts = and_parts (nat_le 48 c) (nat_le c 57) low in
      let from = leb-true 48 c parts.0 in
      let upto = leb-true c 57 parts.1 in
      let is : c - 48 ≡ d = same_Some _ _ (rw low at h) in
      let under : nat_lt d 10 ≡ true = lt-ltb d 10 (omega arith) in
      (rw under (omega arith), omega arith)
  | inr other ↦ elim (cases_Bool (nat_le 97 c && nat_le c 102)) [
    | inl high ↦
        let parts = and_parts (nat_le 97 c) (nat_le c 102) high in
        let from = leb-true 97 c parts.0 in
        let upto = leb-true c 102 parts.1 in
        let is : c - 97 + 10 ≡ d = same_Some _ _ (rw (other, high) at h) in
        let over : nat_lt d 10 ≡ false = le-ltb d 10 (omega arith) in
        (rw over (omega arith), omega arith)
    | inr none ↦ cc (rw (other, none) at h)
  ]
]

hexadecimal_read : (b : ℕ) (later : List ℕ) → b < 256 → front_byte (hexadecimal b ++ later) ≡ Some (b, later)
hexadecimal_read b later small =
    let is : b / 16 * 16 + b % 16 ≡ b = omega arith in
    rw (digit_read (b / 16) (omega arith), digit_read (b % 16) (omega arith), is) refl

escape_read : (b : ℕ) (later : List ℕ) → b < 256 → front_byte (escape b ++ later) ≡ Some (b, later)
escape_read b later small = elim (cases_Bool (b == backslash)) [
  | inl here ↦ rw (eqb-true b backslash here) refl
  | inr not_backslash ↦ elim (cases_Bool (b == cr)) [
    | inl here ↦ rw (eqb-true b cr here) refl
    | inr not_cr ↦ elim (cases_Bool (b == lf)) [
      | inl here ↦ rw (eqb-true b lf here) refl
      | inr not_lf ↦ elim (cases_Bool (is_printable b)) [
        | inl printable ↦ rw (not_backslash, not_cr, not_lf, printable) (rw (not_backslash, printable) refl)
        | inr other ↦ rw (not_backslash, not_cr, not_lf, other) (hexadecimal_read b later small)
      ]
    ]
  ]
]

-- what spells a byte is read as it, whatever follows
pub byte_read : (b : ℕ) (front later : List ℕ) → SpellsByte b front → front_byte (front ++ later) ≡ Some (b, later)
byte_read b front later h =
    elim h.1 [ inl is ↦ rw is (escape_read b later h.0) | inr is ↦ rw is (hexadecimal_read b later h.0) ]

-- and has a byte
some_byte : (b : ℕ) (front : List ℕ) → SpellsByte b front → 1 ≤ length front
some_byte b [] h = let read : front_byte [] ≡ Some (b, []) = byte_read b [] [] h in absurd cc
some_byte b (x ∷ xs) h = omega arith

-- what is left after a byte that a text's front spells
pub record IsFront (text : List ℕ) (b : ℕ) (later : List ℕ) : Type 0 where
  pub front : List ℕ
  pub split : text ≡ front ++ later
  pub spells : SpellsByte b front

abbrev IsFrontOf : List ℕ → ℕ × List ℕ → Type 0
IsFrontOf text p = IsFront text p.0 p.1

at_Some : (text : List ℕ) (p q : ℕ × List ℕ)
    → ◌≡◌ {A = Option (ℕ × List ℕ)} (Some p) (Some q)
    → IsFrontOf text p
    → IsFrontOf text q
at_Some text p q same h = subst (IsFrontOf text) (same_Some p q same) h

hex_spelled : (xs : List ℕ) (p : ℕ × List ℕ) → hex_byte xs ≡ Some p → IsFrontOf (92 ∷ 120 ∷ xs) p
hex_spelled [] p h = cc
hex_spelled (x ∷ []) p h = cc
hex_spelled (x ∷ y ∷ later) p h = by_digits (hex_digit x) (hex_digit y) refl refl h
  where
    by_digits : (o q : Option ℕ)
        → hex_digit x ≡ o
        → hex_digit y ≡ q
        → option_and_then (λ a. option_and_then (λ b. Some (a * 16 + b, later)) q) o ≡ Some p
        → IsFrontOf (92 ∷ 120 ∷ x ∷ y ∷ later) p
    by_digits None q is_x is_y e = cc
    by_digits (Some a) None is_x is_y e = cc
    by_digits (Some a) (Some b) is_x is_y e =
        let (first, low) = digit_spelled x a is_x in
        let (second, under) = digit_spelled y b is_y in
        let n : ℕ = a * 16 + b in
        let top : n / 16 ≡ a = omega arith in
        let rest : n % 16 ≡ b = omega arith in
        let text : x ∷ y ∷ [] ≡ digit_char (n / 16) ∷ digit_char (n % 16) ∷ [] = rw (top, rest, first, second) refl in
        at_Some _ (n, later) p e (record {
          front = 92 ∷ 120 ∷ x ∷ y ∷ [];
          split = refl;
          spells = (omega arith, inr (ap (λ t. 92 ∷ 120 ∷ t) text));
        })

escaped_spelled : (xs : List ℕ) (p : ℕ × List ℕ) → escaped_byte xs ≡ Some p → IsFrontOf (92 ∷ xs) p
escaped_spelled [] p h = cc
escaped_spelled (x ∷ later) p h = elim (cases_Bool (x == backslash)) [
  | inl here ↦
      let is : x ≡ 92 = eqb-true x 92 here in
      at_Some _ (92, later) p (rw here at h) (record
      { front = 92 ∷ 92 ∷ []; split = rw is refl; spells = (lit< tt, inl refl) })
  | inr not_backslash ↦ elim (cases_Bool (x == 114)) [
    | inl here ↦
        let is : x ≡ 114 = eqb-true x 114 here in
        at_Some _ (13, later) p (rw (not_backslash, here) at h)
        (record { front = 92 ∷ 114 ∷ []; split = rw is refl; spells = (lit< tt, inl refl) })
    | inr not_r ↦ elim (cases_Bool (x == 110)) [
      | inl here ↦
          let is : x ≡ 110 = eqb-true x 110 here in
          at_Some _ (10, later) p (rw (not_backslash, not_r, here) at h)
          (record { front = 92 ∷ 110 ∷ []; split = rw is refl; spells = (lit< tt, inl refl) })
      | inr not_n ↦ elim (cases_Bool (x == 120)) [
        | inl here ↦
            let is : x ≡ 120 = eqb-true x 120 here in
            rw is (hex_spelled later p (rw (not_backslash, not_r, not_n, here) at h))
        | inr other ↦ cc (rw (not_backslash, not_r, not_n, other) at h)
      ]
    ]
  ]
]

-- a byte that is read was spelled
pub byte_spelled : (text : List ℕ) (b : ℕ) (later : List ℕ) → front_byte text ≡ Some (b, later) → IsFront text b later
byte_spelled [] b later h = cc
byte_spelled (x ∷ xs) b later h = elim (cases_Bool (x == backslash)) [
  | inl here ↦ rw (eqb-true x 92 here) (escaped_spelled xs (b, later) (rw here at h))
  | inr not_backslash ↦ elim (cases_Bool (is_printable x)) [
    | inl printable ↦
        let parts = and_parts (nat_le 32 x) (nat_le x 126) printable in
        let from = leb-true 32 x parts.0 in
        let upto = leb-true x 126 parts.1 in
        let itself : x ∷ [] ≡ escape x =
        rw (not_backslash, ne_eqb x 13 (λ e. omega arith), ne_eqb x 10 (λ e. omega arith), printable) refl in
        at_Some _ (x, xs) (b, later) (rw (not_backslash, printable) at h)
        (record { front = x ∷ []; split = refl; spells = (omega arith, inl itself) })
    | inr other ↦ cc (rw (not_backslash, other) at h)
  ]
]

-- what spells bytes is read as them
bytes_read : (bytes text : List ℕ) (n : ℕ)
    → SpellsBytes bytes text
    → length text ≤ n
    → unescape_upto n text ≡ Some bytes
bytes_read [] text zero h room = refl
bytes_read [] text (suc n) h room = rw h refl
bytes_read (b ∷ bytes) text n (front, rest, first, later, is) room =
    rw is (from_front front n (some_byte b front first) (byte_read b front rest first) (rw is at room)
    (λ m less. bytes_read bytes rest m later less))
  where
    from_front : (front : List ℕ) (n : ℕ)
        → 1 ≤ length front
        → front_byte (front ++ rest) ≡ Some (b, rest)
        → length (front ++ rest) ≤ n
        → ((m : ℕ) → length rest ≤ m → unescape_upto m rest ≡ Some bytes) → unescape_upto n (front ++ rest) ≡ Some
        (b ∷ bytes)
    from_front [] n some read room more = absurd (omega arith)
    from_front (x ∷ xs) zero some read room more = absurd (omega arith)
    from_front (x ∷ xs) (suc n) some read room more =
        let others = more n (omega (arith, length-append xs rest)) in rw (read, others) refl

-- a text that spells bytes is read as them
pub spelled_bytes_read : (bytes text : List ℕ) → SpellsBytes bytes text → unescape text ≡ Some bytes
spelled_bytes_read bytes text h = bytes_read bytes text (length text) h (omega arith)

-- bytes that are read were spelled
bytes_spelled : (n : ℕ) (text bytes : List ℕ)
    → length text ≤ n
    → unescape_upto n text ≡ Some bytes
    → SpellsBytes bytes text
bytes_spelled zero [] bytes room h = subst (λ bs. SpellsBytes bs []) (same_Some [] bytes h) refl
bytes_spelled zero (x ∷ xs) bytes room h = absurd (omega arith)
bytes_spelled (suc n) [] bytes room h = subst (λ bs. SpellsBytes bs []) (same_Some [] bytes h) refl
bytes_spelled (suc n) (x ∷ xs) bytes room h =
    by_front (front_byte (x ∷ xs)) refl h (λ rest bs less is. bytes_spelled n rest bs less is)
  where
    by_rest : (p : ℕ × List ℕ) (o : Option (List ℕ))
        → option_and_then (λ bs. Some (p.0 ∷ bs)) o ≡ Some bytes
        → IsFront (x ∷ xs) p.0 p.1
        → ((bs : List ℕ) → o ≡ Some bs → SpellsBytes bs p.1)
        → SpellsBytes bytes (x ∷ xs)
    by_rest p None e front more = cc
    by_rest p (Some bs) e front more =
        subst (λ bs. SpellsBytes bs (x ∷ xs)) (same_Some (p.0 ∷ bs) bytes e)
        (front.front, p.1, front.spells, more bs refl, front.split)

    by_front : (o : Option (ℕ × List ℕ))
        → front_byte (x ∷ xs) ≡ o
        → option_and_then (λ p. option_and_then (λ bs. Some (p.0 ∷ bs)) (unescape_upto n p.1)) o ≡ Some bytes
        → ((rest bs : List ℕ) → length rest ≤ n → unescape_upto n rest ≡ Some bs → SpellsBytes bs rest) → SpellsBytes
        bytes (x ∷ xs)
    by_front None is e more = cc
    by_front (Some p) is e more =
        let front = byte_spelled (x ∷ xs) p.0 p.1 is in
        let some = some_byte p.0 front.front front.spells in
        let whole : length (x ∷ xs) ≡ length front.front + length p.1 =
        ap length front.split ∙ length-append front.front p.1 in
        let shorter : length p.1 ≤ n = omega arith in
        by_rest p (unescape_upto n p.1) e front (λ bs is. more p.1 bs shorter is)

-- a text that is read as bytes spells them
pub read_bytes_spelled : (bytes text : List ℕ) → unescape text ≡ Some bytes → SpellsBytes bytes text
read_bytes_spelled bytes text h = bytes_spelled (length text) text bytes (omega arith) h

-- one byte
pub one_byte_read : (b : ℕ) (text : List ℕ) → SpellsByte b text → one_byte text ≡ Some b
one_byte_read b text h =
    let read : front_byte text ≡ Some (b, []) = rw append-nil at (byte_read b text [] h) in
    rw read refl

-- a text that is read as one byte spells it
pub one_byte_spelled : (b : ℕ) (text : List ℕ) → one_byte text ≡ Some b → SpellsByte b text
one_byte_spelled b text h = by_front (front_byte text) refl h
  where
    by_front : (o : Option (ℕ × List ℕ))
        → front_byte text ≡ o
        → option_and_then (λ p. cond (length p.1 == 0) (Some p.0) None) o ≡ Some b
        → SpellsByte b text
    by_front None is e = cc
    by_front (Some (byte, [])) is e =
        let front = byte_spelled text byte [] is in
        let same : byte ≡ b = same_Some byte b e in
        let whole : text ≡ front.front = front.split ∙ append-nil front.front in
        subst (λ t. SpellsByte b t) (sym whole) (subst (λ n. SpellsByte n front.front) same front.spells)
    by_front (Some (byte, y ∷ ys)) is e =
        let other = rw (ne_eqb (length (y ∷ ys)) 0 (λ z. omega arith)) at e in absurd cc

-- bytes that are all below 256 are spelled as a transcript shows them
pub escaped_spells : (bytes : List ℕ)
    → IsTrue (list_all (λ b. nat_lt b 256) bytes)
    → SpellsBytes bytes (flat_map escape bytes)
escaped_spells [] small = refl
escaped_spells (b ∷ bytes) small =
    let parts = and_parts (nat_lt b 256) (list_all (λ b. nat_lt b 256) bytes) small in
    (escape b, flat_map escape bytes, (ltb-true b 256 parts.0, inl refl), escaped_spells bytes parts.1, refl)
