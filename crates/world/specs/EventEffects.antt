-- What each event of a schedule did.
use Rattle.std.specs.Prelude.{ℕ, ◌&&◌, List, [], ◌∷◌, length, drop, Option, None, Some, slice_get, if◌then◌else◌}
use Rattle.table.specs.declared.operations.Call.{Call}
use Rattle.node.specs.declared.messages.Peer.{Peer}
use Rattle.node.specs.declared.messages.Input.{Input}
use Rattle.node.specs.declared.messages.Input.TheVariants.{Call as Called, From, Gone}
use Rattle.world.specs.declared.events.Event.{Event}
use Rattle.world.specs.declared.events.Event.TheVariants.{Piece, Begin, Work, Deliver, Fail, Tell, Hand}
use Rattle.world.specs.declared.connections.Stage.{Stage}
use Rattle.world.specs.declared.connections.Stage.TheVariants.{Idle, Begun, Asked, Replied}
use Rattle.world.specs.declared.event_effects.EventEffect.{EventEffect}
use Rattle.world.specs.declared.event_effects.EventEffect.TheVariants.{Nothing, Came, Began, Stepped, Failed, Handed}
use Rattle.world.specs.Connections.{Connection, begun, handed, to_work}
use Rattle.world.specs.ServerSteps.{step_shown}
use Rattle.world.specs.Worlds.{World, server, link, lives, has_failed, happens, opening_world, run_of}

-- the bytes that a connection was sent from the one to the other
abbrev pub sent_between : Connection → Connection → List ℕ
sent_between before after = drop (length before.session.out) after.session.out

-- bytes come, unless the session is closed
abbrev pub piece_event_effect : Connection → EventEffect
piece_event_effect k = if k.session.closed then Nothing else Came

-- what a `begin` is, by the connection before and after: the bytes sent, and the call that waits for its work, if there
-- is one
abbrev pub began : Connection → Connection → EventEffect
began before after = Began (to_work after.stage after) (sent_between before after)

-- if no call is open, the next one begins
-- (here and below, the first argument is the stage at which the connection k stands)
abbrev pub begin_event_effect : Stage → Connection → EventEffect
begin_event_effect Idle k = began k (begun Idle k)
begin_event_effect Begun k = Nothing
begin_event_effect Asked k = Nothing
begin_event_effect (Replied reply) k = Nothing

-- the waiting reply reaches the connection
abbrev pub hand_event_effect : Stage → Connection → EventEffect
hand_event_effect Idle k = Nothing
hand_event_effect Begun k = Nothing
hand_event_effect Asked k = Nothing
hand_event_effect (Replied reply) k = Handed reply (sent_between k (handed (Replied reply) k))

-- what an event at a connection does, if there is one and its home lives
abbrev pub event_effect_at : World → (Connection → EventEffect) → Option Connection → EventEffect
event_effect_at w does None = Nothing
event_effect_at w does (Some k) = if lives w k.home then does k else Nothing

-- server i takes this input
abbrev pub took : World → ℕ → Input → EventEffect
took w i input = Stepped i (step_shown (server w i) input)

-- this call of the c-th connection, if there is one, goes to its server
abbrev pub call_event_effect : World → ℕ → ℕ → Option Call → EventEffect
call_event_effect w c home None = Nothing
call_event_effect w c home (Some call) = took w home (Called c call)

-- the begun call of a connection, if there is one, goes to its server, if that lives
abbrev pub work_event_effect : World → ℕ → Option Connection → EventEffect
work_event_effect w c None = Nothing
work_event_effect w c (Some k) = if lives w k.home then call_event_effect w c k.home (to_work k.stage k) else Nothing

-- the first of these messages of the link from server i to server j is delivered, if j lives
abbrev pub deliver_event_effect : World → ℕ → ℕ → List Peer → EventEffect
deliver_event_effect w i j [] = Nothing
deliver_event_effect w i j (m ∷ ms) = if lives w j then took w j (From i m) else Nothing

-- what an event does in a world
abbrev pub event_effect : World → Event → EventEffect
event_effect w (Piece c bytes) = event_effect_at w piece_event_effect (slice_get w.connections c)
event_effect w (Begin c) = event_effect_at w (λ k. begin_event_effect k.stage k) (slice_get w.connections c)
event_effect w (Work c) = work_event_effect w c (slice_get w.connections c)
event_effect w (Deliver i j) = deliver_event_effect w i j (link w i j)
event_effect w (Fail i) = if lives w i then Failed else Nothing
event_effect w (Tell i j) = if lives w i && has_failed w j then took w i (Gone j) else Nothing
event_effect w (Hand c) = event_effect_at w (λ k. hand_event_effect k.stage k) (slice_get w.connections c)

-- what these events do, one after another
abbrev pub event_effects_from : World → List Event → List EventEffect
event_effects_from w [] = []
event_effects_from w (e ∷ es) = event_effect w e ∷ event_effects_from (happens w e) es

-- what the events of a schedule did
abbrev pub event_effects_of : ℕ → List ℕ → List Event → List EventEffect
event_effects_of count homes events = event_effects_from (opening_world count homes) events

-- A run: the world that it ends in, and what each of its events did.
pub record TraceShown : Type 0 where
  pub world : World
  pub event_effects : List EventEffect

-- the run of a schedule
abbrev pub trace_of : ℕ → List ℕ → List Event → TraceShown
trace_of count homes events =
    record { world = run_of count homes events; event_effects = event_effects_of count homes events }
