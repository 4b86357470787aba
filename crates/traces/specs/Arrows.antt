-- The arrows of a picture: one for each thing that was put, from where it was put to where it was taken.
use Rattle.std.specs.Prelude.{◌≡◌, ℕ, ◌+◌, ◌<◌, true, false, List, [], ◌∷◌, ◌++◌, length, map, flat_map, slice_get}
use Rattle.std.specs.Prelude.{Option, None, Some, if◌then◌else◌}
use Rattle.world.specs.declared.events.Event.{Event}
use Rattle.world.specs.declared.event_effects.EventEffect.{EventEffect}
use Rattle.world.specs.EventEffects.{TraceShown}
use Rattle.schedules.specs.Settling.{first_numbers}
use Rattle.traces.specs.declared.crossings.Lane.{Lane}
use Rattle.traces.specs.declared.crossings.Lane.TheVariants.{Server, Connection}
use Rattle.traces.specs.declared.crossings.Way.{Way}
use Rattle.traces.specs.declared.crossings.Crossing.{Crossing}
use Rattle.traces.specs.declared.arrows.Arrow.{Arrow}
use Rattle.traces.specs.Crossings.{from_to, next, only_on, puts_of, takes_of, row_after_all}

-- the arrow of what was put: it ends where that was taken, or in flight at this row
unfoldable pub arrow_of : ℕ → Crossing → Option Crossing → Arrow
arrow_of row put None = record { put = put; row = row; came = false }
arrow_of row put (Some taken) = record { put = put; row = taken.row; came = true }

-- the row after an arrow that was laid at this one: an arrow in flight has a row of its own
unfoldable pub row_laid : ℕ → Arrow → ℕ
row_laid row arrow = if arrow.came then row else next row

-- The arrows of one way: what is put on it first is taken first. The first of these puts is the one of this place among
-- all on the way.
abbrev pub laid : ℕ → List Crossing → ℕ → List Crossing → List Arrow
laid row takes place [] = []
laid row takes place (p ∷ ps) =
    let arrow = arrow_of row p (slice_get takes place) in
    arrow ∷ laid (row_laid row arrow) takes (place + 1) ps

-- the row after them
abbrev pub row_laid_all : ℕ → List Crossing → ℕ → List Crossing → ℕ
row_laid_all row takes place [] = row
row_laid_all row takes place (p ∷ ps) =
    row_laid_all (row_laid row (arrow_of row p (slice_get takes place))) takes (place + 1) ps

-- the arrows of a way, of what was put and what was taken
abbrev pub laid_on : List Crossing → List Crossing → ℕ → Way → List Arrow
laid_on puts takes row w = laid row (only_on w takes) 0 (only_on w puts)

-- the row after them
abbrev pub row_laid_on : List Crossing → List Crossing → ℕ → Way → ℕ
row_laid_on puts takes row w = row_laid_all row (only_on w takes) 0 (only_on w puts)

-- the arrows of ways, one way after another
abbrev pub laid_from : List Crossing → List Crossing → ℕ → List Way → List Arrow
laid_from puts takes row [] = []
laid_from puts takes row (w ∷ ws) =
    laid_on puts takes row w ++ laid_from puts takes (row_laid_on puts takes row w) ws

-- the calls of connections to their homes, of which the first has this number
abbrev pub calls_from : ℕ → List ℕ → List Way
calls_from c [] = []
calls_from c (home ∷ homes) = from_to (Connection c) (Server home) ∷ calls_from (c + 1) homes

-- the replies to them
abbrev pub replies_from : ℕ → List ℕ → List Way
replies_from c [] = []
replies_from c (home ∷ homes) = from_to (Server home) (Connection c) ∷ replies_from (c + 1) homes

-- the link from server i to server j
abbrev pub link_way : ℕ → ℕ → Way
link_way i j = from_to (Server i) (Server j)

-- those from server i to the servers below a count
abbrev pub links_from : ℕ → ℕ → List Way
links_from count i = map (link_way i) (first_numbers count)

-- those from each server of a chain of n to each
abbrev pub links_of : ℕ → List Way
links_of count = flat_map (links_from count) (first_numbers count)

-- all ways between the lanes of a picture
unfoldable pub ways_of : ℕ → List ℕ → List Way
ways_of count homes = calls_from 0 homes ++ links_of count ++ replies_from 0 homes

-- A picture of a chain of n servers, whose connections have these homes, has a way between these lanes: from each
-- server to each, from a connection to its home, and from its home back to it.
abbrev pub IsWay : ℕ → List ℕ → Lane → Lane → Type 0
IsWay count homes (Server i) (Server j) = (i < count) × (j < count)
IsWay count homes (Connection c) (Server home) = slice_get homes c ≡ Some home
IsWay count homes (Server home) (Connection c) = slice_get homes c ≡ Some home
IsWay count homes (Connection c) (Connection d) = ⊥

-- what was put stands on such a way
abbrev pub IsOnWay : ℕ → List ℕ → Crossing → Type 0
IsOnWay count homes p = IsWay count homes p.way.from p.way.to

-- the arrows of the effects of these events, over a chain of n servers whose connections have these homes
unfoldable pub arrows_among : ℕ → List ℕ → List Event → List EventEffect → List Arrow
arrows_among count homes events event_effects =
    laid_from (puts_of event_effects) (takes_of homes events event_effects) (row_after_all 0 event_effects)
    (ways_of count homes)

-- the arrows of a trace of these events, whose connections have these homes: one for each thing that was put on a way
unfoldable pub arrows_of : List ℕ → List Event → TraceShown → List Arrow
arrows_of homes events t = arrows_among (length t.world.servers) homes events t.event_effects
