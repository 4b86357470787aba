-- The world: the servers of a chain, their links and the connections; what each event does; and the world after a
-- schedule.
use Rattle.std.specs.Prelude.{ℕ, zero, suc, Bool, false, not, ◌&&◌, nat_lt, List, [], ◌∷◌, ◌++◌, length, map, replicate}
use Rattle.std.specs.Prelude.{slice_index_or, slice_set, Option, None, Some, slice_get, if◌then◌else◌}
use Rattle.table.specs.declared.operations.Call.{Call}
use Rattle.node.specs.declared.messages.Peer.{Peer}
use Rattle.node.specs.declared.messages.Input.{Input}
use Rattle.node.specs.declared.messages.Input.TheVariants.{Call as Called, From, Gone}
use Rattle.node.specs.declared.messages.Output.{Output}
use Rattle.node.specs.declared.messages.Output.TheVariants.{To, Reply as Replied}
use Rattle.node.specs.Views.{View, has, union, single}
use Rattle.node.specs.Servers.{ServerState, RuleResult, opening}
use Rattle.node.specs.Steps.{step}
use Rattle.world.specs.declared.events.Event.{Event}
use Rattle.world.specs.declared.events.Event.TheVariants.{Piece, Begin, Work, Deliver, Fail, Tell, Hand}
use Rattle.world.specs.Connections.{Connection, fresh, came, begun, to_work, asked, replied, handed, changed_at}
use Rattle.world.specs.Links.{messages_between, with_messages}

-- A world: the servers, those of them that have failed, the link from each server to each, oldest message first,
-- and the connections.
pub record World : Type 0 where
  pub servers : List ServerState
  pub failed : View
  pub links : List (List (List Peer))
  pub connections : List Connection

-- in place of a server that isn't in the chain
abbrev pub nobody : ServerState
nobody = opening 0 0

-- server i
unfoldable pub server : World → ℕ → ServerState
server w i = slice_index_or w.servers i nobody

-- the link from server i to server j
unfoldable pub link : World → ℕ → ℕ → List Peer
link w i j = messages_between w.links i j

-- server i is this from now on
unfoldable pub with_server : World → ℕ → ServerState → World
with_server w i s = record w { servers = slice_set w.servers i s }

-- the link from server i to server j holds these messages from now on
unfoldable pub with_link : World → ℕ → ℕ → List Peer → World
with_link w i j ms = record w { links = with_messages w.links i j ms }

-- the c-th connection, if there is one, changes so
unfoldable pub with_connection : World → ℕ → (Connection → Connection) → World
with_connection w c change = record w { connections = changed_at w.connections c change }

-- the first k servers of a chain of `count`, before any input
abbrev pub opening_servers : ℕ → ℕ → List ServerState
opening_servers count zero = []
opening_servers count (suc k) = opening_servers count k ++ opening k count ∷ []

-- a chain of `count` servers before any event, all alive, with empty links, and a connection at each of these homes
abbrev pub opening_world : ℕ → List ℕ → World
opening_world count homes =
    record {
      servers = opening_servers count count;
      failed = 0;
      links = replicate count (replicate count []);
      connections = map fresh homes;
    }

-- server i is one of the chain, and hasn't failed
abbrev pub lives : World → ℕ → Bool
lives w i = nat_lt i (length w.servers) && not (has w.failed i)

-- there is such a connection, and its home lives
abbrev pub home_lives : World → Option Connection → Bool
home_lives w None = false
home_lives w (Some k) = lives w k.home

-- server i is one of the chain, and has failed
abbrev pub has_failed : World → ℕ → Bool
has_failed w i = nat_lt i (length w.servers) && has w.failed i

-- an output of server i: a message goes at the end of its link, also towards a failed server; a reply waits at its
-- connection
abbrev pub put : World → ℕ → Output → World
put w i (To j peer) = with_link w i j (link w i j ++ peer ∷ [])
put w i (Replied c reply) = with_connection w c (λ k. replied k.stage reply k)

-- outputs of server i, in order
unfoldable pub put_all : World → ℕ → List Output → World
put_all w i [] = w
put_all w i (o ∷ os) = put_all (put w i o) i os

-- server i is what a step made of it, and what it put out goes its ways
abbrev pub acted : World → ℕ → RuleResult → World
acted w i a = put_all (with_server w i a.state) i a.outputs

-- server i takes this input
abbrev pub takes : World → ℕ → Input → World
takes w i input = acted w i (step (server w i) input)

-- a connection changes so, if its home lives
abbrev pub where_home_lives : World → (Connection → Connection) → Connection → Connection
where_home_lives w change k = if lives w k.home then change k else k

-- this call of the c-th connection, if there is one, goes to its server, with the connection's number as its port
abbrev pub sent_in : World → ℕ → ℕ → Option Call → World
sent_in w c home None = w
sent_in w c home (Some call) = takes (with_connection w c asked) home (Called c call)

-- the begun call of a connection, if there is one, goes to its server, if that lives
abbrev pub worked : World → ℕ → Option Connection → World
worked w c None = w
worked w c (Some k) = if lives w k.home then sent_in w c k.home (to_work k.stage k) else w

-- the first of these messages of the link from server i to server j is delivered, if j lives
abbrev pub delivered : World → ℕ → ℕ → List Peer → World
delivered w i j [] = w
delivered w i j (m ∷ ms) = if lives w j then takes (with_link w i j ms) j (From i m) else w

-- what an event does. One that doesn't apply has no effect.
abbrev pub happens : World → Event → World
happens w (Piece c bytes) = with_connection w c (where_home_lives w (came bytes))
happens w (Begin c) = with_connection w c (where_home_lives w (λ k. begun k.stage k))
happens w (Work c) = worked w c (slice_get w.connections c)
happens w (Deliver i j) = delivered w i j (link w i j)
happens w (Fail i) = if lives w i then record w { failed = union w.failed (single i) } else w
happens w (Tell i j) = if lives w i && has_failed w j then takes w i (Gone j) else w
happens w (Hand c) = with_connection w c (where_home_lives w (λ k. handed k.stage k))

-- the world after these events, one after another
abbrev pub run_from : World → List Event → World
run_from w [] = w
run_from w (e ∷ es) = run_from (happens w e) es

-- the world after a schedule
abbrev pub run_of : ℕ → List ℕ → List Event → World
run_of count homes events = run_from (opening_world count homes) events
