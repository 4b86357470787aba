-- Worked histories: what each event is, and the moves that they are.
use Rattle.std.specs.Prelude.{ℕ, List, [], ◌∷◌}
use Rattle.atomic_table.specs.Seated.{TableId}
use Rattle.table.specs.declared.operations.Change.TheVariants.{Put as Puts}
use Rattle.table.specs.declared.operations.Reply.TheVariants.{Stored}
use Rattle.table.specs.declared.operations.Target.TheVariants.{One}
use Rattle.versions.specs.Entries.{LogEntry}
use Rattle.node.specs.declared.messages.Body.TheVariants.{Op, Forward, Ack}
use Rattle.node.specs.declared.messages.Input.{Input}
use Rattle.node.specs.declared.messages.Input.TheVariants.{Call as Called, From, Gone}
use Rattle.node.specs.declared.messages.Peer.{Peer}
use Rattle.node.specs.Servers.{opening}
use Rattle.faces.specs.Histories.{Instance, History}
use Rattle.rail.specs.declared.inbox_messages.Envelope.{Envelope}
use Rattle.rail.specs.declared.inbox_messages.InboxMessage.TheVariants.{Took}
use Rattle.rail.specs.NotedReplies.{NotedReply}
use Rattle.interleavings.specs.Chains.{OfSeat, OfServer}
use Rattle.interleavings.specs.Moves.{Move, Sends, Takes, Publishes, Puts as PutsMessage, Arrives, Replies, Receives}
use Rattle.interleavings.specs.Moves.{Looks}
use Rattle.interleavings.specs.WorkedRuns.{key, set, item}
use Rattle.local_histories.specs.Events.{Event, Sent, Brought, Taken, Shown, Put, Answered, Got, Looked}
use Rattle.local_histories.specs.Objects.{OpenedChain}

-- ---- chains of one or two servers, each with one port

-- which running server is server i of `count`
abbrev pub instance_of : ℕ → ℕ → Instance
instance_of count i =
    record { book = record { number = i; log_name = 0; cells_name = 0 }; start = opening i count }

-- the inbox of server i
abbrev pub inbox_of : ℕ → TableId
inbox_of i = record { words = 0; slots = 0; slot_names = []; views_name = 0; atom = 0; block = i; offset = 0 }

-- a chain of so many servers, with seats at these homes
abbrev pub opened : ℕ → List ℕ → OpenedChain
opened count homes =
    record { count = count; homes = homes; inboxes = inbox_of; instances = instance_of count; ports = λ i. 1 }

-- a message with the number of its sender: a server's callers come first, and then its inlets
abbrev pub envelope : ℕ → Input → Envelope
envelope k input = record { from = k; inbox_message = Took input }

-- the history of server i of `count` after these inputs
abbrev pub after_inputs : ℕ → ℕ → List Input → History
after_inputs count i inputs = record { instance = instance_of count i; inputs = inputs }

-- the reply to the set, at port 0 of server i
abbrev pub stored_by : ℕ → ℕ → List Input → NotedReply
stored_by count i inputs = record { port = 0; reply = Stored; told = after_inputs count i inputs }

-- the entry of the set, which server `origin` was given
abbrev pub set_entry : ℕ → LogEntry
set_entry origin =
    record { number = 1; origin = origin; id = 1; target = One key; reply = Stored; change = Puts item }

-- its forward, its acknowledgement, and the set itself, sent to the head
abbrev pub forward : ℕ → Peer
forward origin = record { view = 0; body = Forward (set_entry origin) }

abbrev pub acknowledgement : Peer
acknowledgement = record { view = 0; body = Ack 1 }

abbrev pub operation : Peer
operation = record { view = 0; body = Op 1 set }

-- ---- Two servers. A client of the head sets a key, the tail commits the set, and a reader of the tail looks.

-- the homes of the seats
abbrev pub head_and_tail : List ℕ
head_and_tail = 0 ∷ 1 ∷ []

-- the events up to the answer
unfoldable pub set_events : List Event
set_events =
    Sent 0 0 0 set ∷ Taken 0 (envelope 0 (Called 0 set)) ∷ Shown 0 (Called 0 set) ∷ Put 0 1 (forward 0)
    ∷ Brought 1 1 (Took (From 0 (forward 0))) ∷ Taken 1 (envelope 1 (From 0 (forward 0)))
    ∷ Shown 1 (From 0 (forward 0)) ∷ Put 1 0 acknowledgement ∷ Brought 0 1 (Took (From 1 acknowledgement))
    ∷ Taken 0 (envelope 1 (From 1 acknowledgement)) ∷ Shown 0 (From 1 acknowledgement)
    ∷ Answered 0 (stored_by 2 0 (Called 0 set ∷ From 1 acknowledgement ∷ []))
    ∷ Got 0 (stored_by 2 0 (Called 0 set ∷ From 1 acknowledgement ∷ [])) ∷ []

-- the look
abbrev pub look_at_tail : Event
look_at_tail = Looked 1 0 key (after_inputs 2 1 (From 0 (forward 0) ∷ []))

-- the moves
unfoldable pub set_and_look_moves : List Move
set_and_look_moves =
    Sends 0 set ∷ Takes 0 (OfSeat 0) ∷ Publishes 0 ∷ PutsMessage 0 1 ∷ Arrives 0 1 ∷ Takes 1 (OfServer 0)
    ∷ Publishes 1 ∷ PutsMessage 1 0 ∷ Arrives 1 0 ∷ Takes 0 (OfServer 1) ∷ Publishes 0 ∷ Replies 0 0 ∷ Receives 0
    ∷ Looks 1 key ∷ []

-- ---- Four histories in which a set is answered, and a look that begins afterwards finds nothing of it. Each breaks
-- ---- one part of the rules (`WrongRules.antt`), and has no order.

-- reader q of server i of `count` looks, at the face with which the server opened
abbrev pub look_at_first : ℕ → ℕ → ℕ → Event
look_at_first count i q = Looked i q key (after_inputs count i [])

-- one server, with a reader that has no port: the look finds the face with which it opened
abbrev pub alone : List ℕ
alone = 0 ∷ 0 ∷ []

unfoldable pub older_events : List Event
older_events =
    Sent 0 0 0 set ∷ Taken 0 (envelope 0 (Called 0 set)) ∷ Shown 0 (Called 0 set)
    ∷ Answered 0 (stored_by 1 0 (Called 0 set ∷ [])) ∷ Got 0 (stored_by 1 0 (Called 0 set ∷ [])) ∷ []

-- the same server answers before the face after the set is shown, which never is: so its worker's events are no turn
unfoldable pub unshown_events : List Event
unshown_events =
    Sent 0 0 0 set ∷ Taken 0 (envelope 0 (Called 0 set)) ∷ Answered 0 (stored_by 1 0 (Called 0 set ∷ []))
    ∷ Got 0 (stored_by 1 0 (Called 0 set ∷ [])) ∷ []

-- after the events before these, a look that finds what stands: no rule is broken
abbrev pub look_at_last : Event
look_at_last = Looked 0 1 key (after_inputs 1 0 (Called 0 set ∷ []))

-- two servers: the head is told that the tail has stopped, which goes on, and the look is at the tail
unfoldable pub told_events : List Event
told_events =
    Brought 0 1 (Took (Gone 1)) ∷ Taken 0 (envelope 1 (Gone 1)) ∷ Shown 0 (Gone 1) ∷ Sent 0 0 0 set
    ∷ Taken 0 (envelope 0 (Called 0 set)) ∷ Shown 0 (Called 0 set)
    ∷ Answered 0 (stored_by 2 0 (Gone 1 ∷ Called 0 set ∷ [])) ∷ Got 0 (stored_by 2 0 (Gone 1 ∷ Called 0 set ∷ [])) ∷ []

-- two servers: the head takes an acknowledgement that the tail never put, and the look is at the tail
unfoldable pub unput_events : List Event
unput_events =
    Sent 0 0 0 set ∷ Taken 0 (envelope 0 (Called 0 set)) ∷ Shown 0 (Called 0 set)
    ∷ Taken 0 (envelope 1 (From 1 acknowledgement)) ∷ Shown 0 (From 1 acknowledgement)
    ∷ Answered 0 (stored_by 2 0 (Called 0 set ∷ From 1 acknowledgement ∷ []))
    ∷ Got 0 (stored_by 2 0 (Called 0 set ∷ From 1 acknowledgement ∷ [])) ∷ []

-- two servers, a client of the tail: the head's forward reaches the tail before the head has shown its step, and the
-- look is at the head
abbrev pub tail_and_head : List ℕ
tail_and_head = 1 ∷ 0 ∷ []

unfoldable pub early_events : List Event
early_events =
    Sent 1 0 0 set ∷ Taken 1 (envelope 0 (Called 0 set)) ∷ Shown 1 (Called 0 set) ∷ Put 1 0 operation
    ∷ Brought 0 1 (Took (From 1 operation)) ∷ Taken 0 (envelope 1 (From 1 operation)) ∷ Put 0 1 (forward 1)
    ∷ Brought 1 1 (Took (From 0 (forward 1))) ∷ Taken 1 (envelope 1 (From 0 (forward 1)))
    ∷ Shown 1 (From 0 (forward 1)) ∷ Answered 1 (stored_by 2 1 (Called 0 set ∷ From 0 (forward 1) ∷ []))
    ∷ Got 1 (stored_by 2 1 (Called 0 set ∷ From 0 (forward 1) ∷ [])) ∷ []
