-- Bytes of lines and fields.
use Rattle.std.specs.Prelude.{ℕ, Bool, false, not, nat_le, ◌==◌, ◌&&◌, List, [], ◌∷◌, length, Option, None, Some}
use Rattle.std.specs.Prelude.{unwrap_or, if◌then◌else◌, codes}
use Rattle.std.specs.List.{list_all, slice_split, position}
use Rattle.std.specs.Char.{is_ascii_digit}

-- line feed, carriage return, space
abbrev pub lf : ℕ
lf = 10

abbrev pub cr : ℕ
cr = 13

abbrev pub space : ℕ
space = 32

-- CR LF
abbrev pub crlf : List ℕ
crlf = cr ∷ lf ∷ []

-- the most bytes of a line, its LF among them (this project's rule)
unfoldable pub line_limit : ℕ
line_limit = 2048

-- the place of the first LF
abbrev pub first_lf : List ℕ → Option ℕ
first_lf bytes = position (λ b. b == lf) bytes

-- the place of the first space
abbrev pub first_space : List ℕ → Option ℕ
first_space text = position (λ b. b == space) text

-- the end of the first field
abbrev pub first_end : List ℕ → ℕ
first_end text = unwrap_or (first_space text) (length text)

-- the fields of a line's text, cut at each single space: two spaces together, or one at an end, make an empty field
-- (this project's rule)
abbrev pub fields_of : List ℕ → List (List ℕ)
fields_of text = slice_split (λ b. b == space) text

-- the fields of the text that is left, if there is one
abbrev pub fields_left : Option (List ℕ) → List (List ℕ)
fields_left None = []
fields_left (Some text) = fields_of text

-- the word for no reply (protocol.txt, "noreply")
abbrev pub noreply_word : List ℕ
noreply_word = codes "noreply"

-- an expiry time: digits, or a minus and digits
abbrev pub is_exptime : List ℕ → Bool
is_exptime [] = false
is_exptime (c ∷ cs) =
    if c == 45 then nat_le 1 (length cs) && list_all is_ascii_digit cs else list_all is_ascii_digit (c ∷ cs)

-- one that is made of the digit 0 alone
abbrev pub is_zero : List ℕ → Bool
is_zero field = list_all (λ c. c == 48) field

-- whether an expiry time is asked for, if the field is one
abbrev pub expiry_of : List ℕ → Option Bool
expiry_of field = if is_exptime field then Some (not (is_zero field)) else None
