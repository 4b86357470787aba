-- A client's connection with its socket.
use Rattle.std.specs.Prelude.{◌≡◌, ◌⊎◌, ◌<◌, ◌++◌, ℕ, List, [], Bool, true, false, length, Option, None, Some}
use Rattle.table.specs.declared.operations.Call.{Call}
use Rattle.proto.specs.Streams.{ends, outcome_texts, turns}
use Rattle.proto.specs.Turns.{calls_of}
use Rattle.serving.specs.declared.endings.End.{End}
use Rattle.serving.specs.declared.endings.End.TheVariants.{Input as InputEnded}
use Rattle.serving.specs.declared.endings.ServeFault.{ServeFault}
use Rattle.serving.specs.Connections.{Connected}
use Rattle.serving.specs.Serving.{is_closed}
use Rattle.seats.specs.Submitters.{Submitting}
use Rattle.seats.specs.SeatPools.{HasNoFault, HasSentNothing, Pooling}
use Rattle.seats.specs.ClientConnections.{ClientConnectionState, HasCause, HasHeard, HasHeardInTurn, calls_open}
use Rattle.seats.specs.ClientConnections.{seats_open}
use Rattle.seats.specs.declared.client_connections.CallStanding.TheVariants.{Idle, Reading, Unsent, Sent}
use Rattle.seats.specs.declared.client_connections.CallStanding.TheVariants.{Over as Spent}
use Rattle.seats.specs.declared.client_connections.Pause.{Pause}
use Rattle.seats.specs.declared.client_connections.Pause.TheVariants.{Input, Output, Lease, Seat, Reply, Turn, Over}
use Rattle.io_threads.specs.declared.clients.ReplyOutcome.{ReplyOutcome}
use Rattle.io_threads.specs.declared.clients.ReplyOutcome.TheVariants.{Reply as ReplyCame, NotYet, Over as Lost}
use Rattle.io_threads.specs.declared.clients.Progress.{Progress}

-- A connection with its socket: what has come of it, the bytes that the socket gave, and those that it took; whether
-- memory was refused to what it gave last; whether the system said that nobody reads any more; and how many reads and
-- writes of the socket have failed.
pub record ClientState : Type 0 where
  pub client_connection : ClientConnectionState
  pub given : List ℕ
  pub taken : List ℕ
  pub refused : Bool
  pub gone : Bool
  pub faults : ℕ

-- What the socket gave was fed, unless memory was refused, and what it took is what was written.
pub record IsPassed (given taken : List ℕ) (refused : Bool) (c : Connected) : Type 0 where
  pub read : refused ≡ false → given ≡ c.read
  pub written : taken ≡ c.written

-- These bytes were the first ones: none, or some, have passed since.
pub record HasPassed (before after : List ℕ) : Type 0 where
  pub more : List ℕ
  pub is : after ≡ before ++ more

-- A client has come to this end: all calls of the bytes that its socket gave have their replies or were refused, and
-- the socket took all of their texts. The input has ended, or these bytes close the connection.
pub record IsServed (end : End) (v : ClientState) : Type 0 where
  pub waiting : v.client_connection.connected.waiting ≡ []
  pub calls : v.client_connection.connected.calls ≡ calls_of (turns v.given)
  pub output : v.taken ≡ outcome_texts (turns v.given) v.client_connection.connected.outcomes
  pub ends : ends v.given ≡ is_closed end
  pub ended : end ≡ InputEnded → v.client_connection.connected.ended ≡ true

-- Its socket is broken, and n of its reads and writes had failed before:
pub data IsBroken (faults : ℕ) (v : ClientState) : Type 0 where
  -- memory was refused to what it gave,
  Refused : v.refused ≡ true → IsBroken faults v
  -- or one more read or write has failed.
  Failed : faults < v.faults → IsBroken faults v

-- No call is answered any more: that was so before, or memory was refused to the connection, or one call more got no
-- reply at this pool, which is that now.
pub record HasFallen (u v : ClientState) (p q : Pooling) : Type 0 where
  pub standing : v.client_connection.standing ≡ Spent
  pub cause : (u.client_connection.standing ≡ Spent)
      ⊎ ((fault : ServeFault) × HasCause fault v.client_connection.connected p q)

-- A client, which was u before, goes no further
pub data IsPast (u v : ClientState) (p q : Pooling) : Type 0 where
  -- once its socket is broken,
  Broken : IsBroken u.faults v → IsPast u v p q
  -- nobody reads any more,
  Gone : v.gone ≡ true → IsPast u v p q
  -- or no call is answered any more;
  Fallen : HasFallen u v p q → IsPast u v p q
  -- or at its end: all is answered and written, and nothing more is wanted.
  Ended : (end : End) → IsServed end v → IsPast u v p q

-- It paused for this reason, and was u before: it wants input; output is due; output is due, which the server may not
-- put out; its call waits for a seat; its call was sent; others are to have their turn; or it goes no further.
abbrev pub HasPaused : Pause → ClientState → ClientState → Pooling → Pooling → Type 0
HasPaused Input u v p q = v.client_connection.standing ≡ Reading
HasPaused Output u v p q = 0 < length v.client_connection.connected.due
HasPaused Lease u v p q = 0 < length v.client_connection.connected.due
HasPaused Seat u v p q = (call : Call) × (v.client_connection.standing ≡ Unsent call)
HasPaused Reply u v p q = (s : Submitting) × (v.client_connection.standing ≡ Sent s)
HasPaused Turn u v p q = Unit {0}
HasPaused Over u v p q = IsPast u v p q

-- It paused at its socket for this reason, and n of its reads and writes had failed before.
abbrev pub HasPausedAtSocket : Pause → ℕ → ClientState → Type 0
HasPausedAtSocket Input faults v = v.client_connection.standing ≡ Reading
HasPausedAtSocket Output faults v = 0 < length v.client_connection.connected.due
HasPausedAtSocket Lease faults v = 0 < length v.client_connection.connected.due
HasPausedAtSocket Seat faults v = ⊥
HasPausedAtSocket Reply faults v = ⊥
HasPausedAtSocket Turn faults v = ⊥
HasPausedAtSocket Over faults v = IsBroken faults v

-- it went no further for this reason, if there is one, and sent no call
abbrev pub without_call : Option Pause → Option Progress
without_call None = None
without_call (Some pause) = Some (record { pause = pause; has_sent = false })

-- no call of it waits, and it may want input
pub record IsAtRest (t : ClientConnectionState) : Type 0 where
  pub waiting : t.connected.waiting ≡ []
  pub standing : (t.standing ≡ Idle) ⊎ (t.standing ≡ Reading)

-- It went on and sent nothing, and no call got no reply: the calls that were sent before are those that were.
pub record HasGoneQuietly (t u : ClientConnectionState) (p q : Pooling) : Type 0 where
  pub sender : HasSentNothing p q
  pub faults : HasNoFault p q
  pub seats : seats_open u.standing u.ahead ≡ seats_open t.standing t.ahead
  pub calls : calls_open u.standing u.connected.waiting ≡ calls_open t.standing t.connected.waiting
  pub fallen : u.standing ≡ Spent → t.standing ≡ Spent

-- What came of the replies to its calls: one or more were handed on, each to the call that it answers, in turn; none
-- has come, and nothing has changed; or, perhaps after some, no call is answered any more.
abbrev pub HasHeardOf : ReplyOutcome → ClientConnectionState → ClientConnectionState → Pooling → Pooling → Type 0
HasHeardOf ReplyCame t u p q = HasHeard t u × HasHeardInTurn t u p q (seats_open u.standing u.ahead)
HasHeardOf NotYet t u p q = u ≡ t
HasHeardOf (Lost fault) t u p q =
    (u.standing ≡ Spent) × HasCause fault u.connected p q
    × ((left : List Submitting) × HasHeardInTurn t u p q left)
