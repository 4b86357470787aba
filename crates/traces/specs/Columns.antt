-- Where the lanes of a picture stand, and its rows.
use Rattle.std.specs.Prelude.{ℕ, ◌+◌, ◌-◌, ◌*◌, ◌^◌, min, ℤ, pos, ◌+ℤ◌, List, Option, None, Some, slice_get}
use Rattle.std.specs.Int.{w64, saturate_unsigned}
use Rattle.traces.specs.declared.crossings.Lane.{Lane}
use Rattle.traces.specs.declared.crossings.Lane.TheVariants.{Server, Connection}
use Rattle.traces.specs.declared.points.Point.{Point}

-- a number moved by this much, up or down, as far as 0 or as 64 bits count
abbrev pub shifted : ℕ → ℤ → ℕ
shifted number by = saturate_unsigned w64 (pos number +ℤ by)

-- How far from the left edge the lane of each server stands, and that of each connection; and how far all go.
pub record Columns : Type 0 where
  pub servers : List ℕ
  pub connections : List ℕ
  pub width : ℕ

-- a number if there is one, or that of the first lane
abbrev pub or_first : Option ℕ → ℕ
or_first None = 370
or_first (Some x) = x

-- the number that has a place among some, or that of the first lane
abbrev pub number_at : List ℕ → ℕ → ℕ
number_at numbers k = or_first (slice_get numbers k)

-- how far from the top edge a row stands, as far as 64 bits count
unfoldable pub row_height : ℕ → ℕ
row_height row = min (min (row * 28) (2 ^ 64 - 1) + 70) (2 ^ 64 - 1)

-- the lane that has a place among some, at a row
abbrev pub point_at : List ℕ → ℕ → ℕ → Point
point_at numbers place row = record { x = number_at numbers place; y = row_height row }

-- a lane at a row
abbrev pub point : Columns → Lane → ℕ → Point
point columns (Server i) row = point_at columns.servers i row
point columns (Connection c) row = point_at columns.connections c row
