-- The lines of events, as a schedule has them (docs/FORMATS.md, "Schedule").
use Rattle.std.specs.Prelude.{ℕ, nat_eq, nat_lt, Bool, ◌&&◌, List, [], ◌∷◌, ◌++◌, length, Option, None, Some}
use Rattle.std.specs.Prelude.{if◌then◌else◌, codes}
use Rattle.std.specs.List.{list_all}
use Rattle.world.specs.declared.events.Event.{Event}
use Rattle.world.specs.declared.events.Event.TheVariants.{Piece, Begin, Work, Deliver, Fail, Tell, Hand}
use Rattle.traces.specs.Words.{labelled, spelled}

-- more bytes than a `piece` shows if they are all alike
unfoldable pub is_long : List ℕ → Bool
is_long bytes = nat_lt 64 (length bytes)

-- each of these bytes is this one
unfoldable pub are_all : ℕ → List ℕ → Bool
are_all byte bytes = list_all (λ b. nat_eq b byte) bytes

-- the byte of which a long piece has many, and no other
abbrev pub repeated : List ℕ → Option ℕ
repeated [] = None
repeated (b ∷ bs) = if is_long (b ∷ bs) && are_all b (b ∷ bs) then Some b else None

-- `fill C N TEXT` for copies of one byte, and else `piece C TEXT`
abbrev pub piece_shown : ℕ → List ℕ → Option ℕ → List ℕ
piece_shown c bytes None = labelled (codes "piece ") c ++ spelled (codes " ") bytes
piece_shown c bytes (Some b) =
    labelled (codes "fill ") c ++ labelled (codes " ") (length bytes) ++ spelled (codes " ") (b ∷ [])

-- the line of a piece
abbrev pub piece_line : ℕ → List ℕ → List ℕ
piece_line c bytes = piece_shown c bytes (repeated bytes)

-- a word and the numbers of two servers
abbrev pub pair_line : List ℕ → ℕ → ℕ → List ℕ
pair_line word i j = labelled word i ++ labelled (codes " ") j

-- the line of an event, without its end
abbrev pub event_line : Event → List ℕ
event_line (Piece c bytes) = piece_line c bytes
event_line (Begin c) = labelled (codes "begin ") c
event_line (Work c) = labelled (codes "work ") c
event_line (Deliver i j) = pair_line (codes "deliver ") i j
event_line (Fail i) = labelled (codes "fail ") i
event_line (Tell i j) = pair_line (codes "tell ") i j
event_line (Hand c) = labelled (codes "hand ") c
