-- How a number is written is read as it; how it is written, and a key, are fields; and a line of short fields is one.
use Rattle.std.proofs.Common.{◌≡◌, ℕ, ◌+◌, ◌^◌, ◌<◌, ◌≤◌, Bool, true, false, List, [], ◌∷◌, ◌++◌, length, Some, refl}
use Rattle.std.proofs.Common.{arith, nat_le, length-append, inl, inr}
use Rattle.std.specs.Prelude.{◌&&◌, ◌||◌, decimal, IsTrue}
use Rattle.std.specs.Char.{is_ascii_digit}
use Rattle.std.specs.List.{list_all, join_with_byte}
use Rattle.std.specs.Str.Parse.{AllDigits, digits_value}
use Rattle.std.proofs.lemmas.Bool.{and_parts, and_from, cases_Bool, leb-true, le-leb, lt-ltb, ne_eqb, not_from_false}
use Rattle.std.proofs.lemmas.Fmt.{decimal_is_IsNumeral, length-decimal-le}
use Rattle.std.proofs.lemmas.Str.Parse.{digit_from_value}
use Rattle.table.specs.Keys.{is_key_byte, IsKey}
use Rattle.table.specs.Numbers.{number_of}
use Rattle.proto.specs.Words.{lf, space, crlf, line_limit}
use Rattle.proto.specs.Grammar.{is_field, IsLine}

-- ---- numbers

are_digits : (ds : List ℕ) → AllDigits 10 ds → list_all is_ascii_digit ds ≡ true
are_digits [] h = refl
are_digits (c ∷ cs) h =
    let range = digit_from_value c h.0 in
    and_from (is_ascii_digit c) (list_all is_ascii_digit cs)
    (and_from _ _ (le-leb 48 c range.0) (le-leb c 57 range.1)) (are_digits cs h.1)

read_digits : (bound n : ℕ) (ds : List ℕ)
    → 0 < length ds
    → list_all is_ascii_digit ds ≡ true
    → digits_value 10 ds ≡ n
    → n < bound
    → number_of bound ds ≡ Some n
read_digits bound n [] some digits value under = absurd (omega arith)
read_digits bound n (c ∷ cs) some digits value under = rw (value, digits, lt-ltb n bound under) refl

-- it is read,
pub number_read : (bound n : ℕ) → n < 2 ^ 64 → n < bound → number_of bound (decimal n) ≡ Some n
number_read bound n small under =
    let (numeral, value) = decimal_is_IsNumeral n small in
    read_digits bound n (decimal n) numeral.0 (are_digits (decimal n) numeral.1) value under

digits_field : (ds : List ℕ) → AllDigits 10 ds → IsTrue (is_field ds)
digits_field [] h = refl
digits_field (c ∷ cs) h =
    let range = digit_from_value c h.0 in
    and_from _ (is_field cs) (and_from _ _ (not_from_false _ (ne_eqb c space (λ e. omega (arith, range.0, e))))
    (not_from_false _ (ne_eqb c lf (λ e. omega (arith, range.0, e))))) (digits_field cs h.1)

-- is a field,
pub number_field : (n : ℕ) → n < 2 ^ 64 → IsTrue (is_field (decimal n))
number_field n small = digits_field (decimal n) (decimal_is_IsNumeral n small).0.1

-- and short
pub number_short : (n : ℕ) → n < 2 ^ 64 → length (decimal n) ≤ 20
number_short n small = length-decimal-le 20 n (omega arith) (omega (arith, small)) small

-- ---- keys

three_parts : (a b c : Bool) → (a && b && c) ≡ true → (a ≡ true) × (b ≡ true) × (c ≡ true)
three_parts true true true h = (refl, refl, refl)
three_parts true true false h = absurd cc
three_parts true false c h = absurd cc
three_parts false b c h = absurd cc

-- a byte of a key is no space and no line feed
above_blank : (b : ℕ) → is_key_byte b ≡ true → 33 ≤ b
above_blank b h = elim (cases_Bool (nat_le 33 b)) [
  | inl t ↦ leb-true 33 b t
  | inr f ↦ elim (cases_Bool (nat_le 128 b)) [
    | inl t ↦ (let high = leb-true 128 b t in omega (arith, high))
    | inr g ↦ absurd (none (nat_le 33 b) (nat_le b 126) (nat_le 128 b) (nat_le b 255) f g h)
  ]
]
  where
    none : (p q r s : Bool) → p ≡ false → r ≡ false → ((p && q) || (r && s)) ≡ true → ⊥
    none true q r s f g h = absurd cc
    none false q true s f g h = absurd cc
    none false q false s f g h = absurd cc

key_bytes : (bs : List ℕ) → list_all is_key_byte bs ≡ true → IsTrue (is_field bs)
key_bytes [] h = refl
key_bytes (b ∷ bs) h =
    let parts = and_parts (is_key_byte b) (list_all is_key_byte bs) h in
    let above = above_blank b parts.0 in
    and_from _ (is_field bs) (and_from _ _ (not_from_false _ (ne_eqb b space (λ e. omega (arith, above, e))))
    (not_from_false _ (ne_eqb b lf (λ e. omega (arith, above, e))))) (key_bytes bs parts.1)

-- a key is a field,
pub key_field : (key : List ℕ) → IsKey key → IsTrue (is_field key)
key_field key h =
    key_bytes key (three_parts (nat_le 1 (length key)) (nat_le (length key) 250) (list_all is_key_byte key) h).2

-- and short
pub key_short : (key : List ℕ) → IsKey key → length key ≤ 250
key_short key h = leb-true _ _
    (three_parts (nat_le 1 (length key)) (nat_le (length key) 250) (list_all is_key_byte key) h).1

-- ---- lines

-- the bytes of these fields, with one more for each
abbrev pub room : List (List ℕ) → ℕ
room [] = 0
room (field ∷ fields) = length field + 1 + room fields

joined_short : (fields : List (List ℕ)) → length (join_with_byte space fields) ≤ room fields
joined_short [] = omega arith
joined_short (x ∷ []) = omega arith
joined_short (x ∷ y ∷ fields) =
    let more = joined_short (y ∷ fields) in
    omega (arith, more, length-append x (space ∷ join_with_byte space (y ∷ fields)))

-- the line of these fields
abbrev pub line_of : List (List ℕ) → List ℕ
line_of fields = join_with_byte space fields ++ crlf

-- is one, if they are short
pub is_line : (fields : List (List ℕ))
    → IsTrue (list_all is_field fields)
    → room fields ≤ 2000
    → IsLine fields (line_of fields)
unfolding line_limit
is_line fields separate few = record {
  spelled = refl;
  separate = separate;
  short = omega (arith, few, joined_short fields, length-append (join_with_byte space fields) crlf);
}
