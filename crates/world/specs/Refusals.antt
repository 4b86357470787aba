-- Refused steps: which server would step at an event, and the events of a run in which the servers whose steps were
-- refused have failed.
use Rattle.std.specs.Prelude.{◌≡◌, ℕ, ◌+◌, ◌≤◌, true, not, ◌&&◌, List, [], ◌∷◌, take, slice_set, Option, None, Some}
use Rattle.std.specs.Prelude.{slice_get, if◌then◌else◌}
use Rattle.table.specs.declared.operations.Call.{Call}
use Rattle.world.specs.declared.events.Event.{Event}
use Rattle.world.specs.declared.events.Event.TheVariants.{Piece, Begin, Work, Deliver, Fail, Tell, Hand}
use Rattle.world.specs.Connections.{Connection, to_work}
use Rattle.world.specs.Links.{is_empty}
use Rattle.world.specs.Worlds.{World, link, lives, has_failed, run_from}

-- the server that takes this call, if there is one
abbrev pub takes_call : ℕ → Option Call → Option ℕ
takes_call home None = None
takes_call home (Some call) = Some home

-- the server that takes the begun call of this connection, if there is one
abbrev pub works_at : World → Option Connection → Option ℕ
works_at w None = None
works_at w (Some k) = if lives w k.home then takes_call k.home (to_work k.stage k) else None

-- the server that takes an input at this event, if one does
abbrev pub steps_at : World → Event → Option ℕ
steps_at w (Piece c bytes) = None
steps_at w (Begin c) = None
steps_at w (Work c) = works_at w (slice_get w.connections c)
steps_at w (Deliver i j) = if lives w j && not (is_empty (link w i j)) then Some j else None
steps_at w (Fail i) = None
steps_at w (Tell i j) = if lives w i && has_failed w j then Some i else None
steps_at w (Hand c) = None

-- the events; the one at each named ordinal, counted from 0, is replaced by the failure of the server named with it
abbrev pub with_failures : List Event → List (ℕ × ℕ) → List Event
with_failures events [] = events
with_failures events ((ordinal, server) ∷ refused) = with_failures (slice_set events ordinal (Fail server)) refused

-- the named ordinals rise, and none is below this one
abbrev pub RiseFrom : ℕ → List (ℕ × ℕ) → Type 0
RiseFrom least [] = Unit {0}
RiseFrom least ((ordinal, server) ∷ refused) = (least ≤ ordinal) × RiseFrom (ordinal + 1) refused

-- From the world w on, with the named failures, this server would have stepped at the event of this ordinal:
pub record WouldStep (w : World) (events : List Event) (refused : List (ℕ × ℕ)) (ordinal server : ℕ) : Type 0 where
  pub event : Event
  pub here : slice_get events ordinal ≡ Some event
  -- it is the one that takes an input at this event, after those before it,
  pub steps : steps_at (run_from w (take ordinal (with_failures events refused))) event ≡ Some server
  -- and hasn't failed by then.
  pub lives : lives (run_from w (take ordinal (with_failures events refused))) server ≡ true
