-- Schedules: what the lines of a text say, in turn, and the first of them that is bad (the format is this project's).
use Rattle.std.specs.Prelude.{◌≡◌, ℕ, ◌+◌, List, [], ◌∷◌, ◌++◌, length, drop, Option, Result, Ok, Err, ok_or}
use Rattle.world.specs.declared.events.Event.{Event}
use Rattle.schedules.specs.declared.schedules.ScheduleFault.{ScheduleFault}
use Rattle.schedules.specs.declared.schedules.ScheduleFault.TheVariants.{Memory, BadLine}
use Rattle.schedules.specs.Splits.{lines, counted_from}
use Rattle.schedules.specs.HeadLines.{servers_line, homes_line}
use Rattle.schedules.specs.EventLines.{events_line}

-- what a schedule says: the number of servers, the home of each connection, and the events
pub record ScheduleShown : Type 0 where
  pub count : ℕ
  pub homes : List ℕ
  pub events : List Event

-- what the first of some numbered lines says; else the number of the bad line: its own, or `end` if there is none
abbrev pub first_says : {X : Type 0} → (List ℕ → Option X) → ℕ → List (ℕ × List ℕ) → Result X ℕ
first_says says end [] = Err end
first_says says end (line ∷ later) = ok_or (says line.1) line.0

-- what follows if nothing was bad
infixl 10 ◌>>=◌
abbrev pub ◌>>=◌ : {X Y : Type 0} → Result X ℕ → (X → Result Y ℕ) → Result Y ℕ
(Ok x) >>= next = next x
(Err bad) >>= next = Err bad

-- the events of some numbered lines, or the number of the first bad one,
-- with `count` servers and `connections` connections
abbrev pub events_of : ℕ → ℕ → List (ℕ × List ℕ) → Result (List Event) ℕ
events_of count connections [] = Ok []
events_of count connections (line ∷ later) = do
  events ← ok_or (events_line count connections line.1) line.0
  more ← events_of count connections later
  Ok (events ++ more)

-- the schedule of the lines that count: the first is `servers N`, the second `homes H ..`, each further line one of
-- events
abbrev pub schedule_of_lines : ℕ → List (ℕ × List ℕ) → Result ScheduleShown ℕ
schedule_of_lines end counted = do
  count ← first_says servers_line end counted
  homes ← first_says (homes_line count) end (drop 1 counted)
  events ← events_of count (length homes) (drop 2 counted)
  Ok (record { count = count; homes = homes; events = events })

-- the schedule of a text, or the number of its first bad line, counting all lines from 1.
-- If a text ends before `servers` or `homes`, that is the number of its lines plus one
abbrev pub schedule_of : List ℕ → Result ScheduleShown ℕ
schedule_of text = schedule_of_lines (length (lines text) + 1) (counted_from 1 (lines text))

-- the fault names the bad line; running out of memory says nothing of the text
abbrev pub Names : {X : Type 0} → Result X ℕ → ScheduleFault → Type 0
Names reading Memory = Unit {0}
Names reading (BadLine n) = reading ≡ Err n
