-- A chain that serves connections, with the queues of the code: a reply stands in the queue of the port for which it
-- was put, and who holds the port takes it there.
use Rattle.std.specs.Prelude.{◌≡◌, ℕ, Bool, true, false, not, ◌&&◌, List, [], ◌∷◌, ◌++◌, Option, None, Some}
use Rattle.std.specs.Prelude.{if◌then◌else◌}
use Rattle.table.specs.declared.operations.Call.{Call}
use Rattle.table.specs.declared.operations.Reply.{Reply}
use Rattle.interleavings.specs.Chains.{Chain, with_at, with_running, with_seat, replies_to, without_reply}
use Rattle.interleavings.specs.Moves.{Replies, is_free, done}
use Rattle.interleavings.specs.OwnPorts.{sent_from}
use Rattle.interleavings.specs.FreePorts.{PortChoice, port_now}
use Rattle.interleavings.specs.Connections.{made, answered, waits, may_have}
use Rattle.interleavings.specs.ServingMoves.{ServingChain, ServingMove, Asks, Answers, Runs, served_at, with_served}
use Rattle.interleavings.specs.ServingMoves.{served_by}
use Rattle.interleavings.specs.Pools.{PooledServing, PooledMove, Serves, Collects, may_ask, opening_pooled}

-- A chain that serves, and the queue of each port of each server, the oldest reply first. The queues of its seats
-- aren't used.
pub record QueuedServing : Type 0 where
  pub pooled : PooledServing
  pub queues : (i port : ℕ) → List Reply

-- its running chain
abbrev pub chain_of : QueuedServing → Chain
chain_of s = s.pooled.serving.chain

-- with this chain that serves
abbrev pub with_serving : QueuedServing → ServingChain → QueuedServing
with_serving s v = record s { pooled = record s.pooled { serving = v } }

-- these queues, with this as that of a port of server i
abbrev pub with_queue : (ℕ → ℕ → List Reply) → ℕ → ℕ → List Reply → ℕ → ℕ → List Reply
with_queue queues i port rs = with_at queues i (with_at (queues i) port rs)

-- a call of seat c is open, and wasn't collected: the seat holds its port
abbrev pub holds : QueuedServing → ℕ → Bool
holds s c = not (is_free ((chain_of s).seats c)) && not (s.pooled.collected c)

-- the queue of the port of seat c
abbrev pub queue_of : PortChoice → QueuedServing → ℕ → List Reply
queue_of ports s c = s.queues ((chain_of s).seats c).home (port_now ports (chain_of s) c)

-- ---- moves

-- this call is to be made: it is sent from its port, if the seat waits for no reply
abbrev pub asking_from : PortChoice → QueuedServing → ℕ → Option Call → QueuedServing
asking_from ports s c None = s
asking_from ports s c (Some call) =
    if is_free ((chain_of s).seats c)
    then record s {
      pooled = record {
        serving = with_served
            (record s.pooled.serving {
              chain = sent_from (port_now ports (chain_of s) c) (chain_of s) c call ((chain_of s).seats c);
            }) c (made call (served_at s.pooled.serving c));
        collected = with_at s.pooled.collected c false;
      };
    }
    else s

-- the connection takes the first of these replies, which stand in the queue of its seat's port, if it waits for one
abbrev pub answering_from : PortChoice → QueuedServing → ℕ → List Reply → QueuedServing
answering_from ports s c [] = s
answering_from ports s c (reply ∷ more) =
    if waits (served_at s.pooled.serving c) && may_have (served_at s.pooled.serving c).session.asked reply
    then record {
      pooled = record s.pooled {
        serving = with_served
            (record s.pooled.serving {
              chain = with_seat (chain_of s) c
                  (record ((chain_of s).seats c) { got = ((chain_of s).seats c).got ++ reply ∷ [] });
            }) c (answered reply (served_at s.pooled.serving c));
      };
      queues = with_queue s.queues ((chain_of s).seats c).home (port_now ports (chain_of s) c) more;
    }
    else s

-- the first of these replies, which stand in the queue of the port of seat c, is collected, if its connection waits for
-- none
abbrev pub collecting_from : PortChoice → QueuedServing → ℕ → List Reply → QueuedServing
collecting_from ports s c [] = s
collecting_from ports s c (reply ∷ more) =
    if waits (served_at s.pooled.serving c)
    then s
    else record {
      pooled = record s.pooled { collected = with_at s.pooled.collected c true };
      queues = with_queue s.queues ((chain_of s).seats c).home (port_now ports (chain_of s) c) more;
    }

-- server i puts the first of these replies, which it has left for this port, into the port's queue
abbrev pub replying_to : QueuedServing → ℕ → ℕ → List Reply → QueuedServing
replying_to s i port [] = s
replying_to s i port (reply ∷ more) =
    record {
      pooled = record s.pooled {
        serving = record s.pooled.serving {
          chain = with_running (chain_of s) i
              (record ((chain_of s).servers i) { outbox = without_reply port ((chain_of s).servers i).outbox });
        };
      };
      queues = with_queue s.queues i port (s.queues i port ++ reply ∷ []);
    }

-- a move of the chain that serves; if it puts a reply, it is for a port
abbrev pub serving_with : List ℕ → PortChoice → QueuedServing → ServingMove → QueuedServing
serving_with homes ports s (Asks c) =
    if may_ask homes ports s.pooled c then asking_from ports s c (served_at s.pooled.serving c).due else s
serving_with homes ports s (Answers c) = if holds s c then answering_from ports s c (queue_of ports s c) else s
serving_with homes ports s (Runs (Replies i port)) =
    if ((chain_of s).servers i).stopped
    then s
    else replying_to s i port (replies_to port ((chain_of s).servers i).outbox)
serving_with homes ports s m = with_serving s (served_by done s.pooled.serving m)

-- what a move does. One that doesn't apply has no effect.
abbrev pub queued_by : List ℕ → PortChoice → QueuedServing → PooledMove → QueuedServing
queued_by homes ports s (Serves m) = serving_with homes ports s m
queued_by homes ports s (Collects c) = if holds s c then collecting_from ports s c (queue_of ports s c) else s

-- the chain after these moves, one after another
abbrev pub queued_from : List ℕ → PortChoice → QueuedServing → List PooledMove → QueuedServing
queued_from homes ports s [] = s
queued_from homes ports s (m ∷ ms) = queued_from homes ports (queued_by homes ports s m) ms

-- before any move all queues are empty
abbrev pub opening_queued : ℕ → List ℕ → QueuedServing
opening_queued count homes = record { pooled = opening_pooled count homes; queues = λ i port. [] }

-- the chain after a run
abbrev pub queued : ℕ → List ℕ → PortChoice → List PooledMove → QueuedServing
queued count homes ports moves = queued_from homes ports (opening_queued count homes) moves

-- ---- the queues are those of the seats

-- The chain t of `Pools.antt` is the chain s, with the queue of each port as that of the seat that holds the port:
pub record IsWithSeatQueues (ports : PortChoice) (s : QueuedServing) (t : PooledServing) : Type 0 where
  -- both serve the same connections,
  pub connections : t.serving.connections ≡ s.pooled.serving.connections
  pub ended : t.serving.ended ≡ s.pooled.serving.ended
  pub collected : t.collected ≡ s.pooled.collected
  -- their servers and channels are the same,
  pub servers : t.serving.chain.servers ≡ (chain_of s).servers
  pub channels : t.serving.chain.channels ≡ (chain_of s).channels
  -- their seats have the same calls and replies,
  pub home : (c : ℕ) → (t.serving.chain.seats c).home ≡ ((chain_of s).seats c).home
  pub calls : (c : ℕ) → (t.serving.chain.seats c).calls ≡ ((chain_of s).seats c).calls
  pub got : (c : ℕ) → (t.serving.chain.seats c).got ≡ ((chain_of s).seats c).got
  -- and what stands in the queue of a seat that holds a port is what stands in the port's.
  pub queued : (c : ℕ) → holds s c ≡ true → (t.serving.chain.seats c).queued ≡ queue_of ports s c
