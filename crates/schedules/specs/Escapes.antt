-- Escapes: any bytes as printable text, and back.
use Rattle.std.specs.Prelude.{◌≡◌, ◌<◌, ◌⊎◌, ℕ, zero, suc, ◌+◌, ◌-◌, ◌*◌, ◌/◌, ◌%◌, ◌&&◌, nat_le, ◌==◌, Bool, List, []}
use Rattle.std.specs.Prelude.{◌∷◌, ◌++◌, length, Option, None, Some, if◌then◌else◌, codes}
use Rattle.std.specs.Char.{digit_char}
use Rattle.proto.specs.Requests.{◌>>=◌}
use Rattle.schedules.specs.Splits.{lf, cr}

-- the byte in front of an escape's letter
abbrev pub backslash : ℕ
backslash = 92

-- a byte that stands for itself if it is no backslash
abbrev pub is_printable : ℕ → Bool
is_printable b = nat_le 32 b && nat_le b 126

-- a byte as `\xHH`, by two lower case hexadecimal digits
abbrev pub hexadecimal : ℕ → List ℕ
hexadecimal b = codes "\\x" ++ digit_char (b / 16) ∷ digit_char (b % 16) ∷ []

-- the text that a transcript shows for a byte
abbrev pub escape : ℕ → List ℕ
escape b =
    if b == backslash then codes "\\\\"
    else if b == cr then codes "\\r"
    else if b == lf then codes "\\n"
    else if is_printable b then b ∷ []
    else hexadecimal b

-- a text spells a byte: as a transcript shows it, or as `\xHH`
abbrev pub SpellsByte : ℕ → List ℕ → Type 0
SpellsByte b text = (b < 256) × ((text ≡ escape b) ⊎ (text ≡ hexadecimal b))

-- a text spells bytes, one after another
abbrev pub SpellsBytes : List ℕ → List ℕ → Type 0
SpellsBytes [] text = text ≡ []
SpellsBytes (b ∷ bs) text =
    (front : List ℕ) × (rest : List ℕ) × SpellsByte b front × SpellsBytes bs rest × (text ≡ front ++ rest)

-- a lower case hexadecimal digit: 48 to 57 are `0` to `9`, and 97 to 102 are `a` to `f`
abbrev pub hex_digit : ℕ → Option ℕ
hex_digit c =
    if nat_le 48 c && nat_le c 57 then Some (c - 48)
    else if nat_le 97 c && nat_le c 102 then Some (c - 97 + 10)
    else None

-- the byte that two such digits spell, and what stands after them
abbrev pub hex_byte : List ℕ → Option (ℕ × List ℕ)
hex_byte [] = None
hex_byte (high ∷ []) = None
hex_byte (high ∷ low ∷ later) = do
  h ← hex_digit high
  l ← hex_digit low
  Some (h * 16 + l, later)

-- the byte that stands after a backslash, and what stands after it: `\\`, `\r`, `\n` or `\xHH`
abbrev pub escaped_byte : List ℕ → Option (ℕ × List ℕ)
escaped_byte [] = None
escaped_byte (letter ∷ later) =
    if letter == backslash then Some (backslash, later)
    else if letter == 114 then Some (cr, later)  -- r
    else if letter == 110 then Some (lf, later)  -- n
    else if letter == 120 then hex_byte later  -- x
    else None

-- the byte that the front of a text spells, and what stands after it
abbrev pub front_byte : List ℕ → Option (ℕ × List ℕ)
front_byte [] = None
front_byte (first ∷ later) =
    if first == backslash then escaped_byte later
    else if is_printable first then Some (first, later)
    else None

-- the bytes that a text spells, at most n of them
abbrev pub unescape_upto : ℕ → List ℕ → Option (List ℕ)
unescape_upto zero text = Some []
unescape_upto (suc n) [] = Some []
unescape_upto (suc n) (first ∷ later) = do
  (byte, rest) ← front_byte (first ∷ later)
  bytes ← unescape_upto n rest
  Some (byte ∷ bytes)

-- the bytes that a text spells: none has more than the text
abbrev pub unescape : List ℕ → Option (List ℕ)
unescape text = unescape_upto (length text) text

-- the one byte that a text spells, with nothing after it
abbrev pub one_byte : List ℕ → Option ℕ
one_byte text = do
  (byte, later) ← front_byte text
  if length later == 0 then Some byte else None
