-- How far a connection is along its stream: which turns are past, which one is open, and which are still to come.
use Rattle.std.specs.Prelude.{◌≡◌, ℕ, ◌≤◌, List, [], ◌∷◌, ◌++◌, length, take, Option, None, Some}
use Rattle.table.specs.declared.operations.Call.{Call}
use Rattle.proto.specs.declared.texts.Form.{Form}
use Rattle.proto.specs.Turns.{Turn, Calls}
use Rattle.proto.specs.Sessions.{fed}
use Rattle.proto.specs.Streams.{turns, ends, to_come, will_close}
use Rattle.world.specs.Connections.{Connection, open_call}
use Rattle.world.specs.Sent.{StreamPosition}

-- the turn of this call, which is open in this form, if one is
abbrev pub turn_of : Option Call → Option Form → List Turn
turn_of None asked = []
turn_of (Some call) None = []
turn_of (Some call) (Some form) = Calls call form ∷ []

-- the open turn of a connection, if there is one
abbrev pub open_turn : Connection → List Turn
open_turn k = turn_of (open_call k) k.session.asked

-- the turns of its stream that a connection has passed
abbrev pub past : StreamPosition → List Turn
past position = take position.ordinal (turns position.stream)

-- The connection k has come so far:
pub record IsAt (k : Connection) (position : StreamPosition) : Type 0 where
  -- its ordinal is at most the number of turns of its stream;
  pub ordinal : position.ordinal ≤ length (turns position.stream)
  -- whatever bytes may follow, the turns of its stream are those that are past, the open one, and those that its
  -- session has still to give;
  pub whole : (more : List ℕ)
      → turns (position.stream ++ more) ≡ past position ++ (open_turn k ++ to_come (fed k.session more))
  -- and its session is closed, or will be by the bytes that it has, exactly if the stream ends in its last request.
  pub end : (more : List ℕ) → will_close (fed k.session more) ≡ ends (position.stream ++ more)
