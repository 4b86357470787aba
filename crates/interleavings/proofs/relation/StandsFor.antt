-- The world that stands for a running chain: what of the chain each of its parts is.
use Rattle.std.proofs.Common.{◌≡◌, ℕ, ◌<◌, ◌≤◌, ◌+◌, true, false, List, [], ◌++◌, length, Option, None, Some, ap, ◌∙◌}
use Rattle.std.specs.Prelude.{slice_get, not, ◌==◌, if◌then◌else◌}
use Rattle.table.specs.declared.operations.Call.{Call}
use Rattle.table.specs.declared.operations.Reply.{Reply}
use Rattle.node.specs.declared.messages.Peer.{Peer}
use Rattle.node.specs.declared.messages.Input.TheVariants.{Gone}
use Rattle.node.proofs.Lists.{In}
use Rattle.world.specs.declared.connections.Stage.{Stage}
use Rattle.world.specs.declared.connections.Stage.TheVariants.{Idle, Begun, Asked, Replied}
use Rattle.world.specs.Connections.{Connection, to_work}
use Rattle.world.specs.Waiting.{waiting_reply}
use Rattle.world.specs.Worlds.{World, server, link, lives, run_from}
use Rattle.world.specs.declared.events.Event.{Event}
use Rattle.interleavings.specs.Chains.{Seat, Chain, messages_from, messages_to, calls_from, replies_to}
pub use Rattle.interleavings.specs.Chains.{listed, queue}
use Rattle.proto.proofs.RestedLaws.{IsRested}

-- what is on its way from server i to server j, the oldest first
abbrev pub under_way : Chain → ℕ → ℕ → List Peer
under_way l i j =
    messages_from i (queue (l.servers j)) ++ (l.channels i j ++ messages_to j (l.servers i).outbox)

-- the call that waits for a step of server i, by a connection
abbrev pub call_at : ℕ → Option Connection → List Call
call_at i None = []
call_at i (Some k) = if k.home == i then listed (to_work k.stage k) else []

-- the reply that server i has still to put, by a connection
abbrev pub reply_at : ℕ → Option Connection → List Reply
reply_at i None = []
reply_at i (Some k) = if k.home == i then listed (waiting_reply k.stage) else []

-- no call is open, or one is
abbrev pub Tallies : Stage → ℕ → ℕ → Type 0
Tallies Idle calls replies = calls ≡ replies
Tallies Begun calls replies = calls ≡ replies + 1
Tallies Asked calls replies = calls ≡ replies + 1
Tallies (Replied reply) calls replies = calls ≡ replies + 1

-- a connection stands for a seat: it has the replies that the seat has and those in its queue; and the seat's calls,
-- but for one that was sent to a server that had stopped
pub record IsSeat (w : World) (k : Connection) (s : Seat) : Type 0 where
  pub home : k.home ≡ s.home
  pub replies : k.replies ≡ s.got ++ s.queued
  pub unheard : List Call
  pub calls : s.calls ≡ k.calls ++ unheard
  pub heard : lives w k.home ≡ true → unheard ≡ []
  pub rested : lives w k.home ≡ true → IsRested k.session
  pub tallies : Tallies k.stage (length k.calls) (length k.replies)

-- a seat without a connection is at no server, and has nothing
pub record IsAway (l : Chain) (s : Seat) : Type 0 where
  pub stopped : (l.servers s.home).stopped ≡ true
  pub none : (s.got ≡ []) × (s.queued ≡ [])

-- what a connection, or none, says of a seat
abbrev pub Sits : Chain → World → Option Connection → Seat → Type 0
Sits l w None s = IsAway l s
Sits l w (Some k) s = IsSeat w k s

-- The world w stands for the chain l. It speaks only of what still counts: of servers that go on, and of what is on its
-- way to them.
pub record StandsFor (l : Chain) (w : World) : Type 0 where
  pub count : l.count ≡ length w.servers
  pub lives : (i : ℕ) → lives w i ≡ not (l.servers i).stopped
  pub servers : (i : ℕ) → (l.servers i).stopped ≡ false → server w i ≡ (l.servers i).node
  pub links : (i j : ℕ) → (l.servers j).stopped ≡ false → link w i j ≡ under_way l i j
  pub calls : (i c : ℕ)
      → (l.servers i).stopped ≡ false
      → calls_from c (queue (l.servers i)) ≡ call_at i (slice_get w.connections c)
  pub replies : (i c : ℕ)
      → (l.servers i).stopped ≡ false
      → replies_to c (l.servers i).outbox ≡ reply_at i (slice_get w.connections c)
  pub notices : (i j : ℕ)
      → In (Gone j) (queue (l.servers i))
      → (j < l.count) × ((l.servers j).stopped ≡ true)
  pub seats : (c : ℕ) → Sits l w (slice_get w.connections c) (l.seats c)

-- some events, four at most, make of the world what stands for this chain
abbrev pub Reaches : World → Chain → Type 0
Reaches w l = (events : List Event) × (length events ≤ 4) × StandsFor l (run_from w events)

-- a server that goes on lives
pub lives_on : (l : Chain) (w : World) (i : ℕ) → StandsFor l w → (l.servers i).stopped ≡ false → lives w i ≡ true
lives_on l w i h going = h.lives i ∙ ap not going

-- a seat sits as before if the same servers have stopped
pub sits_still : (w : World) (l m : Chain) → ((k : ℕ) → (m.servers k).stopped ≡ (l.servers k).stopped)
    → (o : Option Connection) (s : Seat)
    → Sits l w o s
    → Sits m w o s
sits_still w l m same None s g = record { stopped = same s.home ∙ g.stopped; none = g.none }
sits_still w l m same (Some k) s g = g
