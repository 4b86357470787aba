-- Words, lines and parts: bytes split at spaces and at line feeds.
use Rattle.std.specs.Prelude.{ℕ, ◌+◌, Bool, true, ◌==◌, List, [], ◌∷◌, Option, None, Some, option_map, if◌then◌else◌}
use Rattle.std.specs.List.{onto_first}
pub use Rattle.proto.specs.Words.{lf, cr, space, fields_of}

-- what stands before the first such byte, and what stands after it, if there is one
abbrev pub split_once : ℕ → List ℕ → Option (List ℕ × List ℕ)
split_once byte [] = None
split_once byte (b ∷ bs) = if b == byte then Some ([], bs) else option_map (λ c. (b ∷ c.0, c.1)) (split_once byte bs)

-- the lines of a text, split at each LF: bytes after the last LF are a line too, and nothing after it is none
abbrev pub lines : List ℕ → List (List ℕ)
lines [] = []
lines (b ∷ bs) = if b == lf then [] ∷ lines bs else onto_first b (lines bs)

-- the same with the LF kept at the end of each part
abbrev pub parts : List ℕ → List (List ℕ)
parts [] = []
parts (b ∷ bs) = if b == lf then (b ∷ []) ∷ parts bs else onto_first b (parts bs)

-- a line that says nothing: it is empty or begins with `#`
abbrev pub is_passed_over : List ℕ → Bool
is_passed_over [] = true
is_passed_over (b ∷ bs) = b == 35

-- the lines that count, each with its number, if the first line has this number
abbrev pub counted_from : ℕ → List (List ℕ) → List (ℕ × List ℕ)
counted_from n [] = []
counted_from n (line ∷ later) =
    if is_passed_over line then counted_from (n + 1) later else (n, line) ∷ counted_from (n + 1) later

-- what is left of a text's lines: those that count, each with its number; how many lines were taken; and how many there
-- are in all
pub record LinesLeft : Type 0 where
  pub counted : List (ℕ × List ℕ)
  pub taken : ℕ
  pub all : ℕ
