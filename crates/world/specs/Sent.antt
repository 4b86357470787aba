-- What a connection has been sent: a function of its whole stream, independent of how that was cut.
use Rattle.std.specs.Prelude.{ℕ, zero, suc, ◌+◌, Bool, ◌==◌, List, [], ◌∷◌, ◌++◌, take, drop, Option, None, Some}
use Rattle.std.specs.Prelude.{if◌then◌else◌, slice_get}
use Rattle.table.specs.declared.operations.Call.{Call}
use Rattle.table.specs.declared.operations.Reply.{Reply}
use Rattle.proto.specs.Turns.{Turn, Faulty, Calls}
use Rattle.proto.specs.Streams.{turns, texts}
use Rattle.world.specs.declared.events.Event.{Event}
use Rattle.world.specs.declared.events.Event.TheVariants.{Piece, Begin, Work, Deliver, Fail, Tell, Hand}
use Rattle.world.specs.declared.connections.Stage.{Stage}
use Rattle.world.specs.declared.connections.Stage.TheVariants.{Idle, Begun, Asked, Replied}
use Rattle.world.specs.Connections.{Connection}
use Rattle.world.specs.Worlds.{World, lives, happens, opening_world}

-- The position of a connection in its stream.
-- The stream is what came to the connection while it was open and its server lived.
-- The ordinal is how many turns of the stream it has passed: faults by `begin`, calls by `hand`.
pub record StreamPosition : Type 0 where
  pub stream : List ℕ
  pub ordinal : ℕ

-- the position of a connection before any event
abbrev pub outset : StreamPosition
outset = record { stream = []; ordinal = 0 }

-- how many faults stand at the front of turns
abbrev pub faults_next : List Turn → ℕ
faults_next [] = zero
faults_next (Faulty fault ∷ ts) = suc (faults_next ts)
faults_next (Calls call form ∷ ts) = zero

-- a piece comes at the stream's end, unless the session is closed
abbrev pub on_piece : List ℕ → Bool → StreamPosition → StreamPosition
on_piece bytes closed position = if closed then position else record position { stream = position.stream ++ bytes }

-- a begin if no call is open moves the ordinal over the faults that stand next among the turns of what has come
abbrev pub on_begin : Stage → StreamPosition → StreamPosition
on_begin Idle position =
    record position { ordinal = position.ordinal + faults_next (drop position.ordinal (turns position.stream)) }
on_begin Begun position = position
on_begin Asked position = position
on_begin (Replied reply) position = position

-- a hand if a reply waits moves it over one call
abbrev pub on_hand : Stage → StreamPosition → StreamPosition
on_hand Idle position = position
on_hand Begun position = position
on_hand Asked position = position
on_hand (Replied reply) position = record position { ordinal = position.ordinal + 1 }

-- the position of the c-th connection, which is k before the event and whose home lives, after it
abbrev pub position_after : ℕ → Connection → Event → StreamPosition → StreamPosition
position_after c k (Piece d bytes) position = if c == d then on_piece bytes k.session.closed position else position
position_after c k (Begin d) position = if c == d then on_begin k.stage position else position
position_after c k (Work d) position = position
position_after c k (Deliver i j) position = position
position_after c k (Fail i) position = position
position_after c k (Tell i j) position = position
position_after c k (Hand d) position = if c == d then on_hand k.stage position else position

-- its position after an event, if there is such a connection and its home lives
abbrev pub position_at : World → ℕ → Option Connection → Event → StreamPosition → StreamPosition
position_at w c None e position = position
position_at w c (Some k) e position = if lives w k.home then position_after c k e position else position

-- its position after these events, one after another
abbrev pub position_from : ℕ → World → StreamPosition → List Event → StreamPosition
position_from c w position [] = position
position_from c w position (e ∷ es) =
    position_from c (happens w e) (position_at w c (slice_get w.connections c) e position) es

-- its position after a schedule
abbrev pub position_of : ℕ → List ℕ → List Event → ℕ → StreamPosition
position_of count homes events c = position_from c (opening_world count homes) outset events

-- the texts of the turns up to the ordinal, each call's with its reply
abbrev pub sent_bytes : StreamPosition → List Reply → List ℕ
sent_bytes position replies = texts (take position.ordinal (turns position.stream)) replies

-- the calls among turns
abbrev pub calls_of : List Turn → List Call
calls_of [] = []
calls_of (Faulty fault ∷ ts) = calls_of ts
calls_of (Calls call form ∷ ts) = call ∷ calls_of ts
