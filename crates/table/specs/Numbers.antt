-- Numbers as decimal digits.
use Rattle.std.specs.Prelude.{ℕ, ◌+◌, ◌*◌, ◌^◌, ◌&&◌, nat_lt, nat_le, List, [], ◌∷◌, length, Option, None, Some}
use Rattle.std.specs.Prelude.{if◌then◌else◌}
use Rattle.std.specs.Char.{digit_value, is_ascii_digit}
use Rattle.std.specs.List.{list_all}
use Rattle.std.specs.Str.Parse.{digits_value}

-- the number that these bytes spell, if it is below the bound: digits, leading zeros allowed
abbrev pub number_of : ℕ → List ℕ → Option ℕ
number_of bound [] = None
number_of bound (c ∷ cs) =
    if list_all is_ascii_digit (c ∷ cs) && nat_lt (digits_value 10 (c ∷ cs)) bound then Some
    (digits_value 10 (c ∷ cs)) else None

-- a number with one digit more at its end, if it stays below the bound
abbrev pub with_digit : ℕ → ℕ → ℕ → Option ℕ
with_digit bound n c =
    if is_ascii_digit c && nat_lt (n * 10 + digit_value c) bound then Some (n * 10 + digit_value c) else None

-- the most digits that a counter may have
abbrev pub most_digits : ℕ
most_digits = 20

-- the number that data spells as a counter: 1 to 20 digits, with a value below 2^64 (this project's rule)
abbrev pub counter_of : List ℕ → Option ℕ
counter_of bytes = if nat_le (length bytes) most_digits then number_of (2 ^ 64) bytes else None
