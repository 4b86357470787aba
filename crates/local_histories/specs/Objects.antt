-- What events have left at each object: from events to the states of the contracts of the code.
use Rattle.std.specs.Prelude.{ℕ, zero, suc, ◌+◌, Bool, false, not, ◌&&◌, ◌||◌, ◌==◌, nat_lt, List, [], ◌∷◌, ◌++◌}
use Rattle.std.specs.Prelude.{if◌then◌else◌, length}
use Rattle.atomic_table.specs.Seated.{TableId}
use Rattle.table.specs.declared.operations.Call.{Call}
use Rattle.node.specs.declared.messages.Peer.{Peer}
use Rattle.node.specs.declared.messages.Input.{Input}
use Rattle.node.specs.declared.messages.Input.TheVariants.{Call as Called, From, Gone}
use Rattle.faces.specs.Histories.{Instance, History}
use Rattle.rail.specs.declared.inbox_messages.InboxMessage.{InboxMessage}
use Rattle.rail.specs.declared.inbox_messages.InboxMessage.TheVariants.{Took, Stop, End}
use Rattle.rail.specs.declared.inbox_messages.Envelope.{Envelope}
use Rattle.rail.specs.Links.{LinksState}
use Rattle.rail.specs.NotedReplies.{Address, NotedReply, ReplySenderState}
use Rattle.rail.specs.Workers.{WorkerState}
use Rattle.local_histories.specs.Events.{Event, Sent, Brought, Taken, Shown, Put, Answered, HandedBack, Got}
use Rattle.local_histories.specs.Events.{Halted, Broke}

-- What a chain was opened with: how many servers it has; at which server each of its seats is; and of each server its
-- inbox, which running server it is, and how many ports it has. The seats of a server that have a port come first. A
-- reader without a port is a seat that comes after these: it looks, and sends nothing.
pub record OpenedChain : Type 0 where
  pub count : ℕ
  pub homes : List ℕ
  pub inboxes : ℕ → TableId
  pub instances : ℕ → Instance
  pub ports : ℕ → ℕ

-- ---- gathering

-- this alone if the test holds, and else nothing
abbrev pub only_if : {X : Type 0} → Bool → X → List X
only_if here x = if here then x ∷ [] else []

-- what each of these events adds, in order
abbrev pub gathered : {X : Type 0} → (Event → List X) → List Event → List X
gathered adds [] = []
gathered adds (e ∷ es) = adds e ++ gathered adds es

-- ---- of who sends to an inbox

-- what sender k sends to server i
abbrev pub sends : ℕ → ℕ → Event → List InboxMessage
sends i k (Sent h m port call) = only_if (h == i && m == k) (Took (Called port call))
sends i k (Brought h m message) = only_if (h == i && m == k) message
sends i k e = []

-- what sender k has sent to server i (`CallSenderState.sent`, `InletState.sent`)
abbrev pub sent_by : ℕ → ℕ → List Event → List InboxMessage
sent_by i k es = gathered (sends i k) es

-- the call that is sent from a port of server i
abbrev pub sends_from : ℕ → ℕ → Event → List Call
sends_from i p (Sent h k port call) = only_if (h == i && port == p) call
sends_from i p e = []

-- the calls that were sent from a port of server i (`SeatState.calls`)
abbrev pub sent_from : ℕ → ℕ → List Event → List Call
sent_from i p es = gathered (sends_from i p) es

-- the message from server j that an input is, if it is one
abbrev pub message_from : ℕ → Input → List Peer
message_from j (Called port call) = []
message_from j (From i peer) = only_if (i == j) peer
message_from j (Gone k) = []

-- the input that an inbox message is, if it is one
abbrev pub inputs_in : InboxMessage → List Input
inputs_in (Took input) = input ∷ []
inputs_in Stop = []
inputs_in End = []

-- the input that is brought to server i
abbrev pub brings : ℕ → Event → List Input
brings i (Brought h k message) = if h == i then inputs_in message else []
brings i e = []

-- the messages from server j among these inputs, in order
abbrev pub all_messages_from : ℕ → List Input → List Peer
all_messages_from j [] = []
all_messages_from j (x ∷ xs) = message_from j x ++ all_messages_from j xs

-- the messages from server j that were brought to server i
abbrev pub brought_from : ℕ → ℕ → List Event → List Peer
brought_from j i es = all_messages_from j (gathered (brings i) es)

-- ---- of a worker

-- what the worker of server i takes
abbrev pub takes : ℕ → Event → List Envelope
takes i (Taken h envelope) = only_if (h == i) envelope
takes i e = []

-- what the worker of server i took out of its inbox (`WorkerState.taken`)
abbrev pub taken_by : ℕ → List Event → List Envelope
taken_by i es = gathered (takes i) es

-- the input whose face server i shows
abbrev pub shows : ℕ → Event → List Input
shows i (Shown h input) = only_if (h == i) input
shows i e = []

-- the inputs whose faces server i showed (`History.inputs`)
abbrev pub shown_by : ℕ → List Event → List Input
shown_by i es = gathered (shows i) es

-- server i halts
abbrev pub is_halt : ℕ → Event → Bool
is_halt i (Halted h) = h == i
is_halt i e = false

-- server i has halted (`WorkerState.goes` is false)
abbrev pub has_halted : ℕ → List Event → Bool
has_halted i [] = false
has_halted i (e ∷ es) = is_halt i e || has_halted i es

-- the reply that server i puts for a port
abbrev pub answers : ℕ → ℕ → Event → List NotedReply
answers i p (Answered h reply) = only_if (h == i && reply.port == p) reply
answers i p e = []

-- the replies that server i put for a port (`ReplySenderState.put`)
abbrev pub answered_at : ℕ → ℕ → List Event → List NotedReply
answered_at i p es = gathered (answers i p) es

-- the queue of a port hands a reply back to server i
abbrev pub is_handed_back : ℕ → ℕ → Event → Bool
is_handed_back i p (HandedBack h port) = h == i && port == p
is_handed_back i p e = false

-- it has (`ReplySenderState.gone`)
abbrev pub has_handed_back : ℕ → ℕ → List Event → Bool
has_handed_back i p [] = false
has_handed_back i p (e ∷ es) = is_handed_back i p e || has_handed_back i p es

-- the history that server i has shown (`WorkerState.published`)
abbrev pub published_by : OpenedChain → ℕ → List Event → History
published_by s i es = record { instance = s.instances i; inputs = shown_by i es }

-- the address of a port of server i
abbrev pub address_at : OpenedChain → ℕ → ℕ → Address
address_at s i p = record { instance = s.instances i; port = p }

-- the reply senders of n ports of server i, from port k on
abbrev pub reply_senders_after : OpenedChain → ℕ → List Event → ℕ → ℕ → List ReplySenderState
reply_senders_after s i es k zero = []
reply_senders_after s i es k (suc n) =
    (record {
      address = address_at s i k;
      put = answered_at i k es;
      gone = has_handed_back i k es;
      held = not (has_halted i es);
    }) ∷ reply_senders_after s i es (k + 1) n

-- the worker of server i
abbrev pub worker_after : OpenedChain → ℕ → List Event → WorkerState
worker_after s i es =
    record {
      inbox = s.inboxes i;
      taken = taken_by i es;
      published = published_by s i es;
      goes = not (has_halted i es);
      reply_senders = reply_senders_after s i es 0 (s.ports i);
    }

-- server i is of the chain, and goes on
abbrev pub goes_on : OpenedChain → ℕ → List Event → Bool
goes_on s i es = nat_lt i s.count && not (has_halted i es)

-- ---- of links

-- what server i puts on a link
abbrev pub puts : ℕ → Event → List (ℕ × Peer)
puts i (Put h j peer) = only_if (h == i) (j, peer)
puts i e = []

-- what server i put on its links, each message with its receiver (`LinksState.list`)
abbrev pub put_by : ℕ → List Event → List (ℕ × Peer)
put_by i es = gathered (puts i) es

-- the link of server i to server j fails
abbrev pub breaks : ℕ → ℕ → Event → List (Unit {0})
breaks i j (Broke h to) = only_if (h == i && to == j) tt
breaks i j e = []

-- how often it has failed (`LinksState.failures`)
abbrev pub failures_by : ℕ → ℕ → List Event → ℕ
failures_by i j es = length (gathered (breaks i j) es)

-- The links of server i. What they carried is not told here: what comes out of them is what inlets bring.
abbrev pub links_after : ℕ → List Event → LinksState (Unit {0})
links_after i es =
    record { list = put_by i es; failures = λ j. failures_by i j es; carried = λ j. []; spelled = λ peer. [] }

-- ---- of seats

-- the reply that the seat of server i at a port takes
abbrev pub gets : ℕ → ℕ → Event → List NotedReply
gets i p (Got h reply) = only_if (h == i && reply.port == p) reply
gets i p e = []

-- the replies that it took (`SeatState.got`)
abbrev pub got_at : ℕ → ℕ → List Event → List NotedReply
got_at i p es = gathered (gets i p) es
