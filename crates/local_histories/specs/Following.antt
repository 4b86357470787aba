-- Which event may follow others, in small steps: what the rules of all objects come to at one event.
use Rattle.std.specs.Prelude.{◌≡◌, ◌<◌, ℕ, suc, true, false, List, [], ◌∷◌, ◌++◌, take, Some, slice_get}
use mathlib.Core.List.{IsPrefix}
use Rattle.node.specs.declared.messages.Input.{Input}
use Rattle.node.specs.declared.messages.Input.TheVariants.{Call as Called, From, Gone}
use Rattle.node.specs.declared.messages.Output.{Output}
use Rattle.node.specs.Runs.{put_out}
use Rattle.rail.specs.declared.inbox_messages.InboxMessage.{InboxMessage}
use Rattle.rail.specs.declared.inbox_messages.InboxMessage.TheVariants.{Took, Stop, End}
use Rattle.rail.specs.Links as links
use Rattle.interleavings.specs.Asked.{AreAsked}
use Rattle.interleavings.specs.Chains.{Chain, calls_from, messages_to, replies_to}
use Rattle.interleavings.specs.OtherMoves.{moved_by, moved_from_by}
use Rattle.interleavings.specs.OwnPorts.{with_own_ports}
use Rattle.local_histories.specs.Events.{Event, Sent, Brought, Taken, Shown, Put, Answered, HandedBack, Got, Looked}
use Rattle.local_histories.specs.Events.{Halted, Broke}
use Rattle.local_histories.specs.Objects.{OpenedChain, sent_from, all_messages_from, shown_by, has_halted, answered_at}
use Rattle.local_histories.specs.Objects.{got_at, put_by}
use Rattle.local_histories.specs.LocalRules.{IsAtFreeSeat, ShowsWhatStands}
use Rattle.local_histories.specs.Standing.{given_to, replies_in, StandsForChain, moves_of, all_moves}

-- the second list goes on after the first one with this
abbrev pub GoesOnWith : {X : Type 0} → List X → X → List X → Type 0
GoesOnWith {X} front x xs = (rest : List X) × (xs ≡ front ++ x ∷ rest)

-- all that server i has put out, by what it has shown
abbrev pub outputs_of : OpenedChain → ℕ → List Event → List Output
outputs_of s i es = put_out (s.instances i).start (shown_by i es)

-- server i, which goes on, may be given this: it is the next call from its port, or the next message on the link from
-- its sender, or tells of a server of the chain that has stopped
abbrev pub IsNextInput : OpenedChain → ℕ → List Event → Input → Type 0
IsNextInput s i es (Called port call) = GoesOnWith (calls_from port (given_to i es)) call (sent_from i port es)
IsNextInput s i es (From j peer) =
    (j < s.count) × GoesOnWith (all_messages_from j (given_to i es)) peer (links.messages_to i (put_by j es))
IsNextInput s i es (Gone j) = (j < s.count) × (has_halted j es ≡ true)

-- the same of an inbox message
abbrev pub IsNextMessage : OpenedChain → ℕ → List Event → InboxMessage → Type 0
IsNextMessage s i es (Took input) = IsNextInput s i es input
IsNextMessage s i es Stop = Unit {0}
IsNextMessage s i es End = Unit {0}

-- This event may follow those:
abbrev pub MayFollow : OpenedChain → List Event → Event → Type 0
-- a call is sent where none is open;
MayFollow s es (Sent i k port call) = IsAtFreeSeat es (Sent i k port call)
MayFollow s es (Brought i k message) = Unit {0}
-- a worker that goes on takes what comes next, once it has shown all that it took; one that has stopped takes anything;
MayFollow s es (Taken i envelope) =
    has_halted i es ≡ false → (given_to i es ≡ shown_by i es) × IsNextMessage s i es envelope.inbox_message
-- a server that goes on shows the input that it took;
MayFollow s es (Shown i input) = (has_halted i es ≡ false) × (given_to i es ≡ shown_by i es ++ input ∷ [])
-- it puts the next message for a server, and the next reply for a port, of those that its steps have put out;
MayFollow s es (Put i j peer) =
    (has_halted i es ≡ false) × GoesOnWith (links.messages_to j (put_by i es)) peer (messages_to j (outputs_of s i es))
MayFollow s es (Answered i reply) =
    (has_halted i es ≡ false)
    × GoesOnWith (replies_in (answered_at i reply.port es)) reply.reply (replies_to reply.port (outputs_of s i es))
MayFollow s es (HandedBack i port) = Unit {0}
-- a seat takes the next reply of those that were put for it;
MayFollow s es (Got i reply) =
    GoesOnWith (replies_in (got_at i reply.port es)) reply.reply (replies_in (answered_at i reply.port es))
-- a look is made where no call is open, and finds what stands.
MayFollow s es (Looked i q key stood) =
    IsAtFreeSeat es (Looked i q key stood) × ShowsWhatStands s es (Looked i q key stood)
MayFollow s es (Halted i) = Unit {0}
MayFollow s es (Broke i j) = Unit {0}

-- each of these events may follow those before it
abbrev pub EachMayFollow : OpenedChain → List Event → Type 0
EachMayFollow s es = (n : ℕ) (e : Event) → slice_get es n ≡ Some e → MayFollow s (take n es) e

-- What the turns of a worker come to at one event: it takes a message once it has shown all that it took; and it shows
-- what it took, and puts what its steps have put out, as above.
abbrev pub IsWorkerStep : OpenedChain → List Event → Event → Type 0
IsWorkerStep s es (Taken i envelope) = has_halted i es ≡ false → given_to i es ≡ shown_by i es
IsWorkerStep s es (Shown i input) = MayFollow s es (Shown i input)
IsWorkerStep s es (Put i j peer) = MayFollow s es (Put i j peer)
IsWorkerStep s es (Answered i reply) = MayFollow s es (Answered i reply)
IsWorkerStep s es e = Unit {0}

-- the moves of an event lead from each chain that those before it have left to one that they have left with it
abbrev pub Leads : OpenedChain → List Event → Event → Type 0
Leads s es e = (l : Chain) → StandsForChain s es l
    → StandsForChain s (es ++ e ∷ []) (moved_from_by (with_own_ports s.homes) l (moves_of s es e))

-- These events are a run: after each beginning, the chain after the moves of that is what the events have left; clients
-- can ask the calls of the moves; and the moves of a beginning begin those of the next one.
pub record AreRun (s : OpenedChain) (es : List Event) : Type 0 where
  pub stands : (n : ℕ) → StandsForChain s (take n es)
      (moved_by (with_own_ports s.homes) s.count s.homes (all_moves s (take n es)))
  pub asked : (n : ℕ) → AreAsked (all_moves s (take n es))
  pub further : (n : ℕ) → IsPrefix (all_moves s (take n es)) (all_moves s (take (suc n) es))
