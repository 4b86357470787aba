-- Worlds whose servers take another step: each definition is that of `Worlds.antt`, with the step as an argument.
use Rattle.std.specs.Prelude.{ℕ, ◌&&◌, List, [], ◌∷◌, Option, None, Some, slice_get, if◌then◌else◌}
use Rattle.table.specs.declared.operations.Call.{Call}
use Rattle.node.specs.declared.messages.Peer.{Peer}
use Rattle.node.specs.declared.messages.Input.{Input}
use Rattle.node.specs.declared.messages.Input.TheVariants.{Call as Called, From, Gone}
use Rattle.node.specs.Servers.{ServerState, RuleResult}
use Rattle.world.specs.declared.events.Event.{Event}
use Rattle.world.specs.declared.events.Event.TheVariants.{Piece, Begin, Work, Deliver, Fail, Tell, Hand}
use Rattle.world.specs.Connections.{Connection, to_work, asked}
use Rattle.world.specs.Worlds.{World, server, link, with_link, with_connection, opening_world, lives, has_failed, acted}
use Rattle.world.specs.Worlds.{happens}

-- what a server makes of an input, and what it puts out
abbrev pub Stepping : Type 0
Stepping = ServerState → Input → RuleResult

-- server i takes this input
abbrev pub takes_by : Stepping → World → ℕ → Input → World
takes_by act w i input = acted w i (act (server w i) input)

-- this call of the c-th connection, if there is one, goes to its server
abbrev pub sent_in_by : Stepping → World → ℕ → ℕ → Option Call → World
sent_in_by act w c home None = w
sent_in_by act w c home (Some call) = takes_by act (with_connection w c asked) home (Called c call)

-- the begun call of a connection, if there is one, goes to its server, if that lives
abbrev pub worked_by : Stepping → World → ℕ → Option Connection → World
worked_by act w c None = w
worked_by act w c (Some k) = if lives w k.home then sent_in_by act w c k.home (to_work k.stage k) else w

-- the first of these messages of the link from server i to server j is delivered, if j lives
abbrev pub delivered_by : Stepping → World → ℕ → ℕ → List Peer → World
delivered_by act w i j [] = w
delivered_by act w i j (m ∷ ms) = if lives w j then takes_by act (with_link w i j ms) j (From i m) else w

-- what an event does: at three of them a server takes a step
abbrev pub happens_by : Stepping → World → Event → World
happens_by act w (Piece c bytes) = happens w (Piece c bytes)
happens_by act w (Begin c) = happens w (Begin c)
happens_by act w (Work c) = worked_by act w c (slice_get w.connections c)
happens_by act w (Deliver i j) = delivered_by act w i j (link w i j)
happens_by act w (Fail i) = happens w (Fail i)
happens_by act w (Tell i j) = if lives w i && has_failed w j then takes_by act w i (Gone j) else w
happens_by act w (Hand c) = happens w (Hand c)

-- the world after these events, one after another
abbrev pub run_from_by : Stepping → World → List Event → World
run_from_by act w [] = w
run_from_by act w (e ∷ es) = run_from_by act (happens_by act w e) es

-- the world after a schedule
abbrev pub run_by : Stepping → ℕ → List ℕ → List Event → World
run_by act count homes events = run_from_by act (opening_world count homes) events
