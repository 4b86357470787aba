-- Moves whose calls take any free port: each call of a seat is sent from a port of its own, and a port is used again by
-- any seat of the server once the reply of its last call was put.
use Rattle.std.specs.Prelude.{◌≡◌, ℕ, zero, suc, ◌+◌, ◌<◌, nat_lt, Bool, true, false, not, ◌&&◌, ◌==◌, List, [], length}
use Rattle.std.specs.Prelude.{take, Some, slice_get, if◌then◌else◌}
use Rattle.table.specs.declared.operations.Call.{Call}
use Rattle.world.specs.Calls.{CallId}
use Rattle.world.specs.Orders.{OrderedCall, StandsAt}
use Rattle.interleavings.specs.Chains.{Seat, Chain, queue, calls_from}
use Rattle.interleavings.specs.Moves.{Move, Sends, Replies, done}
use Rattle.interleavings.specs.Orders.{IsUpdate}
use Rattle.interleavings.specs.OtherMoves.{Doing, moved_by}
use Rattle.interleavings.specs.OwnPorts.{sent_from, replying_from}

-- How ports are chosen: the port from which a seat sends its first call, its second one, and so on (of a call that a
-- look answers it isn't used). A law that holds for all choices holds however and whenever ports are chosen.
abbrev pub PortChoice : Type 0
PortChoice = (c ordinal : ℕ) → ℕ

-- the port of the call of seat c that is open; of the next one that it sends, if none is
abbrev pub port_now : PortChoice → Chain → ℕ → ℕ
port_now ports l c = ports c (length (l.seats c).got)

-- a call of the seat is open, and its reply doesn't stand in the seat's queue yet
abbrev pub awaits_reply : Seat → Bool
awaits_reply s = nat_lt (length s.got + length s.queued) (length s.calls)

-- seat c has this port of server i: it is at i, and its call from there awaits its reply
abbrev pub has_port : PortChoice → Chain → ℕ → ℕ → ℕ → Bool
has_port ports l i port c = (l.seats c).home == i && awaits_reply (l.seats c) && port_now ports l c == port

-- none of the first n seats has this port of server i
abbrev pub is_free_port : PortChoice → Chain → ℕ → ℕ → ℕ → Bool
is_free_port ports l i port zero = true
is_free_port ports l i port (suc n) = not (has_port ports l i port n) && is_free_port ports l i port n

-- seat c sends this call, if the port that was chosen for it is free at its server
abbrev pub sending_from : ℕ → PortChoice → Chain → ℕ → Call → Chain
sending_from n ports l c call =
    if is_free_port ports l (l.seats c).home (port_now ports l c) n
    then sent_from (port_now ports l c) l c call (l.seats c)
    else l

-- The moves with these ports. If server i takes an input of seat p, p is a port there; and what it puts for a port goes
-- to the seat whose call from there awaits its reply.
abbrev pub with_free_ports : List ℕ → PortChoice → Doing
with_free_ports homes ports l (Sends c call) = sending_from (length homes) ports l c call
with_free_ports homes ports l (Replies i c) =
    if awaits_reply (l.seats c) then replying_from (port_now ports l c) l i c (l.seats c) else l
with_free_ports homes ports l m = done l m

-- ---- in turn, in the words of `OtherMoves.antt`

-- the calls of seat c that wait for a step of its server: those from its port, if it has one
abbrev pub waiting_calls_at : PortChoice → Chain → ℕ → List Call
waiting_calls_at ports l c =
    if awaits_reply (l.seats c)
    then calls_from (port_now ports l c) (queue (l.servers (l.seats c).home))
    else []

-- the step of the call is published: it is begun, and isn't one of those that wait, which are the last of its seat
abbrev pub is_published_at : PortChoice → Chain → CallId → Bool
is_published_at ports l x =
    nat_lt (x.ordinal + length (waiting_calls_at ports l x.connection)) (length (l.seats x.connection).calls)

-- x is published before y: both are updates at one server of the chain, and after some first k moves the step of x is
-- published, and that of y isn't
pub record PublishedBeforeAt (ports : PortChoice) (count : ℕ) (homes : List ℕ) (moves : List Move) (x y : CallId) :
    Type 0 where
  pub k : ℕ
  pub published : is_published_at ports (moved_by (with_free_ports homes ports) count homes (take k moves)) x ≡ true
  pub not_published : is_published_at ports (moved_by (with_free_ports homes ports) count homes (take k moves)) y
      ≡ false
  pub server : ℕ
  pub of_chain : server < count
  pub here : slice_get homes x.connection ≡ Some server
  pub there : slice_get homes y.connection ≡ Some server
  pub update : IsUpdate (moved_by (with_free_ports homes ports) count homes moves) x
  pub later_update : IsUpdate (moved_by (with_free_ports homes ports) count homes moves) y

-- The order h is in turn: if x is published before y and y is in it, x is in it, at an earlier place.
pub record IsInTurnAt (ports : PortChoice) (count : ℕ) (homes : List ℕ) (moves : List Move) (h : List OrderedCall) :
    Type 0 where
  pub in_turn : (x y : CallId) (j : ℕ)
      → PublishedBeforeAt ports count homes moves x y
      → StandsAt h j y
      → (i : ℕ) × (i < j) × StandsAt h i x
