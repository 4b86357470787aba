-- The texts that spell a schedule, and the first bad line of one that spells none (this project's format).
use Rattle.std.specs.Prelude.{◌≡◌, ℕ, ◌+◌, ◌≤◌, ◌<◌, ◌⊎◌, IsTrue, not, nat_lt, List, [], ◌∷◌, ◌++◌, length, map, filter}
use Rattle.std.specs.Prelude.{flat_map, replicate, decimal, codes}
use Rattle.std.specs.List.{list_all, join_with_byte}
use Rattle.proto.specs.Grammar.{has_no_lf}
use Rattle.world.specs.declared.events.Event.{Event}
use Rattle.world.specs.declared.events.Event.TheVariants.{Piece, Begin, Work, Deliver, Fail, Tell, Hand}
use Rattle.schedules.specs.declared.event_lines.EventLine.{EventLine}
use Rattle.schedules.specs.declared.event_lines.EventLine.TheVariants.{One, Settle}
use Rattle.schedules.specs.Splits.{lf, space, is_passed_over}
use Rattle.schedules.specs.Escapes.{SpellsByte, SpellsBytes}
use Rattle.schedules.specs.EventLines.{events_in}
use Rattle.schedules.specs.Schedules.{ScheduleShown}

-- The lines of a text. An LF stands after each, and in none. After the last one it may be missing, if that line has a
-- byte.
abbrev pub AreLines : List (List ℕ) → List ℕ → Type 0
AreLines [] text = text ≡ []
AreLines (line ∷ later) text =
    IsTrue (has_no_lf line)
    × (((rest : List ℕ) × (text ≡ line ++ lf ∷ rest) × AreLines later rest)
    ⊎ ((text ≡ line) × (1 ≤ length line) × (later ≡ [])))

-- the lines that count: those that are neither empty nor begin with `#`
abbrev pub counted_lines : List (List ℕ) → List (List ℕ)
counted_lines all = filter (λ line. not (is_passed_over line)) all

-- words with one space between each two
abbrev pub words : List (List ℕ) → List ℕ
words fields = join_with_byte space fields

-- `servers N`: numbers are decimal, without leading zeros and without a sign
abbrev pub IsServersLine : ℕ → List ℕ → Type 0
IsServersLine count line = (1 ≤ count) × (count ≤ 16) × (line ≡ words (codes "servers" ∷ decimal count ∷ []))

-- `homes H ..`: 1 to 64 numbers, each below the number of servers
pub record IsHomesLine (count : ℕ) (homes line : List ℕ) : Type 0 where
  pub some : 1 ≤ length homes
  pub few : length homes ≤ 64
  pub each : IsTrue (list_all (λ home. nat_lt home count) homes)
  pub line_is : line ≡ words (codes "homes" ∷ map decimal homes)

-- `piece C TEXT`: TEXT has a byte at least
pub record IsPieceLine (c : ℕ) (bytes line : List ℕ) : Type 0 where
  pub text : List ℕ
  pub number : c < 1000
  pub some : 1 ≤ length text
  pub text_is : SpellsBytes bytes text
  pub line_is : line ≡ words (codes "piece" ∷ decimal c ∷ text ∷ [])

-- `fill C N TEXT`: N copies of the one byte that TEXT spells
pub record IsFillLine (c : ℕ) (bytes line : List ℕ) : Type 0 where
  pub copies : ℕ
  pub byte : ℕ
  pub text : List ℕ
  pub number : c < 1000
  pub some : 1 ≤ copies
  pub few : copies ≤ 2000000
  pub text_is : SpellsByte byte text
  pub bytes_are : bytes ≡ replicate copies byte
  pub line_is : line ≡ words (codes "fill" ∷ decimal c ∷ decimal copies ∷ text ∷ [])

-- `word C`: the number of a connection is below 1000
abbrev pub IsCallLine : List ℕ → ℕ → List ℕ → Type 0
IsCallLine word c line = (c < 1000) × (line ≡ words (word ∷ decimal c ∷ []))

-- `word I J`: the number of a server is below 100
abbrev pub IsPairLine : List ℕ → ℕ → ℕ → List ℕ → Type 0
IsPairLine word i j line = (i < 100) × (j < 100) × (line ≡ words (word ∷ decimal i ∷ decimal j ∷ []))

-- the line of an event
abbrev pub IsLineOf : Event → List ℕ → Type 0
IsLineOf (Piece c bytes) line = IsPieceLine c bytes line ⊎ IsFillLine c bytes line
IsLineOf (Begin c) line = IsCallLine (codes "begin") c line
IsLineOf (Work c) line = IsCallLine (codes "work") c line
IsLineOf (Deliver i j) line = IsPairLine (codes "deliver") i j line
IsLineOf (Fail i) line = (i < 100) × (line ≡ words (codes "fail" ∷ decimal i ∷ []))
IsLineOf (Tell i j) line = IsPairLine (codes "tell") i j line
IsLineOf (Hand c) line = IsCallLine (codes "hand") c line

-- a line after the first two: an event, or `settle K`
abbrev pub IsEventLine : EventLine → List ℕ → Type 0
IsEventLine (One event) line = IsLineOf event line
IsEventLine (Settle rounds) line = (1 ≤ rounds) × (rounds ≤ 500) × (line ≡ words (codes "settle" ∷ decimal rounds ∷ []))

-- such lines, each with what it says
abbrev pub AreEventLines : List EventLine → List (List ℕ) → Type 0
AreEventLines [] [] = Unit {0}
AreEventLines (said ∷ more) (line ∷ later) = IsEventLine said line × AreEventLines more later
AreEventLines said others = ⊥

-- A text spells a schedule. Of its lines that count the first is `servers N`, the second is `homes H ..`, and each
-- further one is of events: those of one line follow those of the line before it.
pub record SpellsSchedule (text : List ℕ) (schedule : ScheduleShown) : Type 0 where
  pub all : List (List ℕ)
  pub first : List ℕ
  pub second : List ℕ
  pub further : List (List ℕ)
  pub said : List EventLine
  pub lines : AreLines all text
  pub counted : counted_lines all ≡ first ∷ second ∷ further
  pub servers : IsServersLine schedule.count first
  pub homes : IsHomesLine schedule.count schedule.homes second
  pub each : AreEventLines said further
  pub events : schedule.events ≡ flat_map (events_in schedule.count (length schedule.homes)) said

-- lines that count and are as stated, each at its place: `servers N`, then `homes H ..`, then lines of events
abbrev pub AreAsStated : List (List ℕ) → Type 0
AreAsStated [] = Unit {0}
AreAsStated (first ∷ []) = (count : ℕ) × IsServersLine count first
AreAsStated (first ∷ second ∷ further) =
    (count : ℕ) × (homes : List ℕ) × (said : List EventLine)
    × IsServersLine count first × IsHomesLine count homes second × AreEventLines said further

-- with the next line they are no longer as stated; or there is no next line, and `servers` or `homes` is missing
abbrev pub IsBadNext : List (List ℕ) → List (List ℕ) → Type 0
IsBadNext before [] = length (counted_lines before) < 2
IsBadNext before (line ∷ later) = AreAsStated (counted_lines (before ++ line ∷ [])) → ⊥

-- Line n, counting all lines from 1, is the first that is not as stated.
pub record IsFirstBad (n : ℕ) (text : List ℕ) : Type 0 where
  pub before : List (List ℕ)
  pub others : List (List ℕ)
  pub lines : AreLines (before ++ others) text
  pub number : n ≡ length before + 1
  pub as_stated : AreAsStated (counted_lines before)
  pub bad : IsBadNext before others
