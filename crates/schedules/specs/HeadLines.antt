-- The two lines that open a schedule.
use Rattle.std.specs.Prelude.{ℕ, ◌&&◌, nat_le, List, [], ◌∷◌, length, Option, None, Some, if◌then◌else◌, codes}
use Rattle.std.specs.Prelude.{bytes_eq}
use Rattle.proto.specs.Requests.{◌>>=◌}
use Rattle.schedules.specs.Splits.{space, split_once, fields_of}
use Rattle.schedules.specs.Numbers.{number_in}

-- the numbers that fields spell, each below this one
abbrev pub numbers_below : ℕ → List (List ℕ) → Option (List ℕ)
numbers_below high [] = Some []
numbers_below high (field ∷ fields) = do
  n ← number_in 0 high field
  ns ← numbers_below high fields
  Some (n ∷ ns)

-- the number of servers that `servers N` names: 1 to 16
abbrev pub servers_line : List ℕ → Option ℕ
servers_line line = do
  (word, number) ← split_once space line
  if bytes_eq word (codes "servers") then number_in 1 17 number else None

-- the homes that `homes H ..` names: at most 64, each below the number of servers
abbrev pub homes_line : ℕ → List ℕ → Option (List ℕ)
homes_line count line = do
  (word, homes) ← split_once space line
  if bytes_eq word (codes "homes") && nat_le (length (fields_of homes)) 64 then numbers_below count
      (fields_of homes) else None
