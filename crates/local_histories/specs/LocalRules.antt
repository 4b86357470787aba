-- What each contract says of its own object, and each table's rule at each instant.
use Rattle.std.specs.Prelude.{◌≡◌, ◌<◌, ◌≤◌, ℕ, true, false, List, [], ◌∷◌, length, take, Some}
use Rattle.std.specs.Prelude.{slice_get}
use mathlib.Core.Option.{some}
use mathlib.Core.List.{IsPrefix}
use lib.ListN.{get_elem?}
use Rattle.node.specs.declared.messages.Input.TheVariants.{Call as Called, From, Gone}
use Rattle.node.specs.Lawful.{IsInput, HoldsEntry}
use Rattle.node.specs.Servers.{opening}
use Rattle.rail.specs.declared.inbox_messages.InboxMessage.TheVariants.{Took}
use Rattle.rail.specs.declared.inbox_messages.Envelope.{Envelope}
use Rattle.rail.specs.declared.inbox.InboxKnowledge.{InboxKnowledge}
use Rattle.rail.specs.declared.reply_channels.ReplyKnowledge.{ReplyKnowledge}
use Rattle.rail.specs.Inbox as inboxes
use Rattle.rail.specs.Links.{messages_to}
use Rattle.rail.specs.NotedReplies.{NotedReply}
use Rattle.rail.specs.ReplyMessages as queues
use Rattle.interleavings.specs.Asked.{IsAsked}
use Rattle.interleavings.specs.Moves.{read_of}
use Rattle.interleavings.specs.OwnPorts.{seats_at}
use Rattle.local_histories.specs.Events.{Event, Sent, Brought, Taken, Shown, Put, Answered, HandedBack, Got, Looked}
use Rattle.local_histories.specs.Events.{Halted, Broke}
use Rattle.local_histories.specs.Objects.{OpenedChain, sent_by, sent_from, brought_from, taken_by, answered_at, got_at}
use Rattle.local_histories.specs.Objects.{published_by, address_at, goes_on, put_by}
use Rattle.local_histories.specs.Turns.{HasTurns}

-- ---- how a chain is opened

-- Each server begins as its node, before any input, and there is a seat for each port.
-- `rail`, `open` (`IsOpened`); `craq_process`, `idle_node`: `which`.
pub record IsOpened (s : OpenedChain) : Type 0 where
  pub start : (i : ℕ) → i < s.count → (s.instances i).start ≡ opening i s.count
  pub seated : (i : ℕ) → i < s.count → s.ports i ≤ seats_at s.homes i

-- an event is one of a server of the chain, and names a port or a reader that it has; its call is one that clients can
-- ask, and its input one that a node may be given (`rail`, `FitInput`: `invariant`)
abbrev pub IsOf : OpenedChain → Event → Type 0
IsOf s (Sent i k port call) = (i < s.count) × (port < s.ports i) × IsAsked call
IsOf s (Brought i k message) = i < s.count
IsOf s (Taken i envelope) = i < s.count
IsOf s (Shown i input) = (i < s.count) × IsInput input × HoldsEntry input
IsOf s (Put i j peer) = i < s.count
IsOf s (Answered i reply) = (i < s.count) × (reply.port < s.ports i)
IsOf s (HandedBack i port) = (i < s.count) × (port < s.ports i)
IsOf s (Got i reply) = (i < s.count) × (reply.port < s.ports i)
IsOf s (Looked i q key stood) = (i < s.count) × (q < seats_at s.homes i) × IsAsked (read_of key)
IsOf s (Halted i) = i < s.count
IsOf s (Broke i j) = i < s.count

-- the same of all of these
abbrev pub AreOf : OpenedChain → List Event → Type 0
AreOf s [] = Unit {0}
AreOf s (e ∷ es) = IsOf s e × AreOf s es

-- ---- the rules of the tables, after these events

-- The rule of an inbox holds, of some messages that stand there and of what its passes know: the receiver knows what
-- the worker took, and each sender that was made what it sent. `rail`, `InboxRule` (`Delivers`).
pub record HasInbox (s : OpenedChain) (i : ℕ) (es : List Event) : Type 0 where
  pub items : List Envelope
  pub views : List InboxKnowledge
  pub rule : inboxes.Delivers items views
  pub made : ℕ
  pub ports : ℕ
  pub receiver : ℕ
  pub takes : get_elem? views receiver ≡ some (inboxes.taker made ports (taken_by i es))
  pub sends : (k : ℕ) → k < made
      → (pass : ℕ) × (own : ℕ) × (get_elem? views pass ≡ some (inboxes.sender k own (sent_by i k es)))
  pub others : (k : ℕ) → made ≤ k → sent_by i k es ≡ []

-- The rule of a seat's replies holds, of some that stand in its queue and of what its two passes know: what the worker
-- put, and what the seat took. `rail`, `ReplyRule` (`IsReplyQueue`).
pub record HasReplies (s : OpenedChain) (i p : ℕ) (es : List Event) : Type 0 where
  pub items : List NotedReply
  pub views : List ReplyKnowledge
  pub rule : queues.IsReplyQueue items views
  pub sender : ℕ
  pub receiver : ℕ
  pub puts : get_elem? views sender ≡ some (queues.putter (address_at s i p) (answered_at i p es))
  pub takes : get_elem? views receiver ≡ some (queues.taker (address_at s i p) (got_at i p es))

-- ---- what is asked of an event, by the events before it

-- Each call that was sent from the port has its reply. `seats`, `Submitter::submit`: the condition `free`
-- (`HasAllReplies`).
abbrev pub HasAllReplies : ℕ → ℕ → List Event → Type 0
HasAllReplies i p es = length (sent_from i p es) ≡ length (got_at i p es)

-- a call is sent at a seat at which none is open, and a look is made where none is
abbrev pub IsAtFreeSeat : List Event → Event → Type 0
IsAtFreeSeat before (Sent i k port call) = HasAllReplies i port before
IsAtFreeSeat before (Looked i q key stood) = HasAllReplies i q before
IsAtFreeSeat before e = Unit {0}

-- What a look finds is what its server has shown, and its server goes on. `faces`, `BoardRule` (`Keeps`, `Tells`):
-- what stands is what the server showed last, until its face is taken away.
abbrev pub ShowsWhatStands : OpenedChain → List Event → Event → Type 0
ShowsWhatStands s before (Looked i q key stood) = (stood ≡ published_by s i before) × (goes_on s i before ≡ true)
ShowsWhatStands s before e = Unit {0}

-- A notice tells of a server of the chain that has stopped by then. `rail`, `Worker`, `Finds`; `runtime`,
-- `Ended::of`, `ServerControl::tell`. Between processes: the end of the process, or of the server's lease. (A notice of
-- a server beyond the chain, or of the server that it is brought to while that goes on, is no event here: it is a step
-- without effect.)
abbrev pub TellsOfStopped : OpenedChain → List Event → Event → Type 0
TellsOfStopped s before (Brought i k (Took (Gone j))) = (j < s.count) × (goes_on s j before ≡ false)
TellsOfStopped s before e = Unit {0}

-- An inlet brings no calls. `rail`, `Inlet`: its pass has no port (`invariant`).
abbrev pub BringsNoCall : Event → Type 0
BringsNoCall (Brought i k (Took (Called port call))) = ⊥
BringsNoCall e = Unit {0}

-- A message is one of a server of the chain: `in_process_links`, `InboxLink::bring`: `ok`; `wire`, `peers`: who greets.
abbrev pub IsOfChain : OpenedChain → Event → Type 0
IsOfChain s (Brought i k (Took (From j peer))) = j < s.count
IsOfChain s e = Unit {0}

-- these two events are of one sender of one server, if both send calls of one port, or bring messages of one server:
-- `io_threads`, `open_pools`: `senders` (a port's calls go by the sender of its pool); `links`, `PeerAdmission::admit`,
-- and `in_process_links`, `all_links` (an id has one link, and that has one inlet)
abbrev pub HaveOneSender : Event → Event → Type 0
HaveOneSender (Sent i k p x) (Sent h m q y) = i ≡ h → p ≡ q → k ≡ m
HaveOneSender (Brought i k (Took (From a x))) (Brought h m (Took (From b y))) = i ≡ h → a ≡ b → k ≡ m
HaveOneSender e f = Unit {0}

-- ---- all of it

-- the event at place n of these, by those before it, is right by this rule
abbrev pub AllBy : (List Event → Event → Type 0) → List Event → Type 0
AllBy rule es = (n : ℕ) (e : Event) → slice_get es n ≡ Some e → rule (take n es) e

-- The events are right, object by object, but for the turns of workers:
pub record KeepRules (s : OpenedChain) (es : List Event) : Type 0 where
  -- each inbox and each queue of replies keeps its rule, after each beginning;
  pub inboxes : (n i : ℕ) → i < s.count → HasInbox s i (take n es)
  pub replies : (n i p : ℕ) → i < s.count → p < s.ports i → HasReplies s i p (take n es)
  -- what comes out of a link is a beginning of what was put on it;
  pub links : (n i j : ℕ) → IsPrefix (brought_from i j (take n es)) (messages_to j (put_by i (take n es)))
  -- a call is sent, and a look made, where no call is open;
  pub seats : AllBy IsAtFreeSeat es
  -- a look finds what stands;
  pub boards : AllBy (ShowsWhatStands s) es
  -- a notice tells of a server that has stopped;
  pub notices : AllBy (TellsOfStopped s) es
  -- inlets bring no calls, and messages of servers of the chain alone; and each port's calls have one sender, each
  -- server's messages one inlet.
  pub inlets : AllBy (λ before e. BringsNoCall e × IsOfChain s e) es
  pub senders : (m n : ℕ) (e f : Event) → slice_get es m ≡ Some e → slice_get es n ≡ Some f → HaveOneSender e f

-- And each worker's events are turns.
pub record AreLocallyRight (s : OpenedChain) (es : List Event) : Type 0 where
  pub rules : KeepRules s es
  pub turns : (i : ℕ) → i < s.count → HasTurns s i es
