-- The lines of a schedule after its head: an event each, or rounds of events.
use Rattle.std.specs.Prelude.{ℕ, List, [], ◌∷◌, replicate, Option, None, Some, option_map, if◌then◌else◌, codes}
use Rattle.std.specs.Prelude.{bytes_eq}
use Rattle.world.specs.declared.events.Event.{Event}
use Rattle.world.specs.declared.events.Event.TheVariants.{Piece, Begin, Work, Deliver, Fail, Tell, Hand}
use Rattle.schedules.specs.declared.event_lines.EventLine.{EventLine}
use Rattle.schedules.specs.declared.event_lines.EventLine.TheVariants.{One, Settle}
use Rattle.proto.specs.Requests.{◌>>=◌}
use Rattle.schedules.specs.Splits.{space, split_once}
use Rattle.schedules.specs.Numbers.{number_in}
use Rattle.schedules.specs.Escapes.{unescape, one_byte}
use Rattle.schedules.specs.Settling.{settled}

-- the number of a connection: 0 to 999
abbrev pub connection_number : List ℕ → Option ℕ
connection_number field = number_in 0 1000 field

-- the number of a server: 0 to 99
abbrev pub server_number : List ℕ → Option ℕ
server_number field = number_in 0 100 field

-- the bytes that a TEXT spells, if it has a byte at least
abbrev pub text_of : List ℕ → Option (List ℕ)
text_of [] = None
text_of (b ∷ bs) = unescape (b ∷ bs)

-- `C TEXT` after `piece`: the bytes of TEXT
abbrev pub piece_line : List ℕ → Option Event
piece_line rest = do
  (number, text) ← split_once space rest
  number ← connection_number number
  bytes ← text_of text
  Some (Piece number bytes)

-- `C N TEXT` after `fill`: the connection, N from 1 to 2000000, and the one byte of TEXT
abbrev pub fill_fields : List ℕ → Option (ℕ × ℕ × ℕ)
fill_fields rest = do
  (number, later) ← split_once space rest
  (count, text) ← split_once space later
  number ← connection_number number
  count ← number_in 1 2000001 count
  byte ← one_byte text
  Some (number, count, byte)

-- N copies of that byte
abbrev pub fill_line : List ℕ → Option Event
fill_line rest = do
  (number, count, byte) ← fill_fields rest
  Some (Piece number (replicate count byte))

-- `I J`: two servers
abbrev pub two_servers : List ℕ → Option (ℕ × ℕ)
two_servers rest = do
  (first, second) ← split_once space rest
  i ← server_number first
  j ← server_number second
  Some (i, j)

-- `C` after `begin`, `work` or `hand`
abbrev pub call_line : List ℕ → List ℕ → Option Event
call_line word rest = do
  number ← connection_number rest
  if bytes_eq word (codes "begin") then Some (Begin number)
      else if bytes_eq word (codes "work") then Some (Work number)
      else if bytes_eq word (codes "hand") then Some (Hand number)
      else None

-- the event after a word: of a server, or of two of them, or of a connection
abbrev pub word_line : List ℕ → List ℕ → Option Event
word_line word rest =
    if bytes_eq word (codes "piece") then piece_line rest
    else if bytes_eq word (codes "fill") then fill_line rest
    else if bytes_eq word (codes "deliver") then option_map (λ p. Deliver p.0 p.1) (two_servers rest)
    else if bytes_eq word (codes "fail") then option_map Fail (server_number rest)
    else if bytes_eq word (codes "tell") then option_map (λ p. Tell p.0 p.1) (two_servers rest)
    else call_line word rest

-- what a line spells: a word, a space, and what follows it; the `K` of `settle` is from 1 to 500
abbrev pub event_line : List ℕ → Option EventLine
event_line line = do
  (word, rest) ← split_once space line
  if bytes_eq word (codes "settle") then option_map Settle (number_in 1 501 rest) else option_map One
      (word_line word rest)

-- the events that it stands for, with `count` servers and `connections` connections
abbrev pub events_in : ℕ → ℕ → EventLine → List Event
events_in count connections (One event) = event ∷ []
events_in count connections (Settle rounds) = settled rounds count connections

-- the events that a line stands for, if it is a line of events
abbrev pub events_line : ℕ → ℕ → List ℕ → Option (List Event)
events_line count connections line = option_map (events_in count connections) (event_line line)
