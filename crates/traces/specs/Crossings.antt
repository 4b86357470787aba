-- What a trace put on its ways, and what it took off them, each at a row of its picture.
use Rattle.std.specs.Prelude.{ℕ, ◌+◌, ◌-◌, ◌^◌, min, nat_eq, Bool, true, false, not, ◌&&◌, List, [], ◌∷◌, ◌++◌, map}
use Rattle.std.specs.Prelude.{slice_get, Option, None, Some, if◌then◌else◌}
use Rattle.node.specs.declared.messages.Input.{Input}
use Rattle.node.specs.declared.messages.Input.TheVariants.{Call as Called, From, Gone}
use Rattle.node.specs.declared.messages.Output.{Output}
use Rattle.node.specs.declared.messages.Output.TheVariants.{To, Reply as Replied}
use Rattle.world.specs.declared.events.Event.{Event}
use Rattle.world.specs.declared.events.Event.TheVariants.{Hand}
use Rattle.world.specs.declared.event_effects.EventEffect.{EventEffect}
use Rattle.world.specs.declared.event_effects.EventEffect.TheVariants.{Nothing, Came, Began, Stepped, Failed, Handed}
use Rattle.world.specs.ServerSteps.{StepShown}
use Rattle.traces.specs.declared.crossings.Lane.{Lane}
use Rattle.traces.specs.declared.crossings.Lane.TheVariants.{Server, Connection}
use Rattle.traces.specs.declared.crossings.Way.{Way}
use Rattle.traces.specs.declared.crossings.Crossing.{Crossing}

-- both are the same lane
abbrev pub is_same_lane : Lane → Lane → Bool
is_same_lane (Server i) (Server j) = nat_eq i j
is_same_lane (Server i) (Connection d) = false
is_same_lane (Connection c) (Server j) = false
is_same_lane (Connection c) (Connection d) = nat_eq c d

-- both are the same way
abbrev pub is_same_way : Way → Way → Bool
is_same_way v w = is_same_lane v.from w.from && is_same_lane v.to w.to

-- the way from one lane to another
abbrev pub from_to : Lane → Lane → Way
from_to from to = record { from = from; to = to }

-- the next row, as far as 64 bits count
unfoldable pub next : ℕ → ℕ
next row = min (row + 1) (2 ^ 64 - 1)

-- news of a failure, and not a call or a message
abbrev pub is_notice : Input → Bool
is_notice (Called c call) = false
is_notice (From j message) = false
is_notice (Gone j) = true

-- news of a failure that was known
abbrev pub is_known_notice : StepShown → Bool
is_known_notice step = is_notice step.input && nat_eq step.after.view step.before.view

-- an effect has a row, unless the event didn't apply or told what was known
abbrev pub is_shown : EventEffect → Bool
is_shown Nothing = false
is_shown Came = true
is_shown (Began call sent) = true
is_shown (Stepped i step) = not (is_known_notice step)
is_shown Failed = true
is_shown (Handed reply sent) = true

-- the row after an effect that has this one, or would have it
unfoldable pub row_after : ℕ → EventEffect → ℕ
row_after row event_effect = if is_shown event_effect then next row else row

-- the row after all of these effects
abbrev pub row_after_all : ℕ → List EventEffect → ℕ
row_after_all row [] = row
row_after_all row (d ∷ ds) = row_after_all (row_after row d) ds

-- at this row something stands on the way from one lane to another
abbrev pub crossing_at : ℕ → Lane → Lane → Crossing
crossing_at row from to = record { way = from_to from to; row = row }

-- a call that server i takes was put by its connection
abbrev pub call_put : ℕ → ℕ → Input → List Crossing
call_put row i (Called c call) = crossing_at row (Connection c) (Server i) ∷ []
call_put row i (From j message) = []
call_put row i (Gone j) = []

-- an output of server i: a message for server j, or a reply for connection c
abbrev pub output_put : ℕ → ℕ → Output → Crossing
output_put row i (To j message) = crossing_at row (Server i) (Server j)
output_put row i (Replied c reply) = crossing_at row (Server i) (Connection c)

-- what an effect at this row puts: by a step of server i the call that it takes, and each of its outputs, in order
unfoldable pub puts_by : ℕ → EventEffect → List Crossing
puts_by row (Stepped i step) = call_put row i step.input ++ map (output_put row i) step.outputs
puts_by row event_effect = []

-- what these effects put, the first of them at this row
abbrev pub puts_from : ℕ → List EventEffect → List Crossing
puts_from row [] = []
puts_from row (d ∷ ds) = puts_by row d ++ puts_from (row_after row d) ds

-- all that the effects of a trace put
abbrev pub puts_of : List EventEffect → List Crossing
puts_of event_effects = puts_from 0 event_effects

-- server i takes a call of a connection, or a message of a server
abbrev pub input_taken : ℕ → ℕ → Input → List Crossing
input_taken row i (Called c call) = crossing_at row (Connection c) (Server i) ∷ []
input_taken row i (From j message) = crossing_at row (Server j) (Server i) ∷ []
input_taken row i (Gone j) = []

-- a connection takes a reply of its home, if it has one
unfoldable pub reply_taken : ℕ → ℕ → Option ℕ → List Crossing
reply_taken row c None = []
reply_taken row c (Some home) = crossing_at row (Server home) (Connection c) ∷ []

-- what is handed over by an event, with these homes of connections
abbrev pub handed_by : ℕ → List ℕ → Event → List Crossing
handed_by row homes (Hand c) = reply_taken row c (slice_get homes c)
handed_by row homes event = []

-- the same if there is an event
unfoldable pub hand_taken : ℕ → List ℕ → Option Event → List Crossing
hand_taken row homes None = []
hand_taken row homes (Some event) = handed_by row homes event

-- what an effect of this event takes at this row: a step its input, and a hand the reply
unfoldable pub takes_by : ℕ → List ℕ → Option Event → EventEffect → List Crossing
takes_by row homes event (Stepped i step) = input_taken row i step.input
takes_by row homes event (Handed reply sent) = hand_taken row homes event
takes_by row homes event event_effect = []

-- what these effects take, of which the first has this place among the events, and this row
abbrev pub takes_from : List ℕ → List Event → ℕ → ℕ → List EventEffect → List Crossing
takes_from homes events place row [] = []
takes_from homes events place row (d ∷ ds) =
    takes_by row homes (slice_get events place) d ++ takes_from homes events (place + 1) (row_after row d) ds

-- all that the effects of a trace take
abbrev pub takes_of : List ℕ → List Event → List EventEffect → List Crossing
takes_of homes events event_effects = takes_from homes events 0 0 event_effects

-- the crossing, if it is on this way
unfoldable pub if_on : Way → Crossing → List Crossing
if_on w p = if is_same_way p.way w then p ∷ [] else []

-- those of these on a way, in order
abbrev pub only_on : Way → List Crossing → List Crossing
only_on w [] = []
only_on w (p ∷ ps) = if_on w p ++ only_on w ps
