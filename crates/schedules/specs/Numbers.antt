-- Numbers: decimal, and without leading zeros.
use Rattle.std.specs.Prelude.{ℕ, Bool, false, ◌&&◌, not, nat_le, nat_lt, ◌==◌, List, [], ◌∷◌, length, Option, None}
use Rattle.std.specs.Prelude.{Some, option_and_then, if◌then◌else◌}
use Rattle.table.specs.Numbers.{number_of}

-- a 0 in front of further bytes
abbrev pub has_leading_zero : List ℕ → Bool
has_leading_zero [] = false
has_leading_zero (c ∷ cs) = c == 48 && nat_lt 0 (length cs)

-- the number that a field spells, if it is at least `low` and below `high`
abbrev pub number_in : ℕ → ℕ → List ℕ → Option ℕ
number_in low high field =
    option_and_then (λ n. if nat_le low n && not (has_leading_zero field) then Some n else None) (number_of high field)
