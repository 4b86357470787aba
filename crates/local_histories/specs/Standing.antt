-- What events have left, as a chain of the model: `StandsForChain`; and the moves that lead there.
use Rattle.std.specs.Prelude.{◌≡◌, ◌<◌, ℕ, zero, suc, ◌&&◌, ◌==◌, List, [], ◌∷◌, ◌++◌}
use Rattle.std.specs.Prelude.{slice_index_or, if◌then◌else◌}
use Rattle.table.specs.Items.{Item}
use Rattle.table.specs.declared.operations.Call.{Call}
use Rattle.table.specs.declared.operations.Reply.{Reply}
use Rattle.table.specs.declared.operations.Reply.TheVariants.{Value}
use Rattle.node.specs.declared.looks.Look.{Look}
use Rattle.node.specs.declared.looks.Look.TheVariants.{Clean, Dirty}
use Rattle.node.specs.declared.messages.Input.{Input}
use Rattle.node.specs.declared.messages.Input.TheVariants.{Call as Called, From, Gone}
use Rattle.node.specs.Faces.{look_at}
use Rattle.node.specs.Runs.{put_out}
use Rattle.faces.specs.Histories.{server_after, shown_after}
use Rattle.rail.specs.declared.inbox_messages.InboxMessage.{InboxMessage}
use Rattle.rail.specs.declared.inbox_messages.InboxMessage.TheVariants.{Took, Stop, End}
use Rattle.rail.specs.Links as links
use Rattle.rail.specs.NotedReplies.{NotedReply}
use Rattle.interleavings.specs.Chains.{RunningServer, Seat, Chain, listed, calls_from, messages_to, replies_to}
use Rattle.interleavings.specs.Chains.{OfSeat, OfServer, OfNotices}
use Rattle.interleavings.specs.Moves.{Move, Sends, Takes, Publishes, Puts, Arrives, Replies, Receives, Looks, Stops}
use Rattle.interleavings.specs.Moves.{Notices, read_of}
use Rattle.interleavings.specs.OwnPorts.{port_at}
use Rattle.local_histories.specs.Events.{Event, Sent, Brought, Taken, Shown, Put, Answered, HandedBack, Got, Looked}
use Rattle.local_histories.specs.Events.{Halted, Broke}
use Rattle.local_histories.specs.Objects.{OpenedChain, gathered, only_if, sent_from, all_messages_from, inputs_in}
use Rattle.local_histories.specs.Objects.{shown_by, is_halt, has_halted, answered_at, got_at, published_by, put_by}

-- ---- calls and replies of a seat, with those of its reader

-- the read that a look is: of a clean key one, and of a dirty one none
abbrev pub read_by : List ℕ → Look Item → List Call
read_by key (Clean item) = read_of key ∷ []
read_by key Dirty = []

-- and its reply
abbrev pub read_reply : Look Item → List Reply
read_reply (Clean item) = Value item ∷ []
read_reply Dirty = []

-- the call that the seat of server i at this port begins: it is sent, or a look answers it
abbrev pub begins : ℕ → ℕ → Event → List Call
begins i p (Sent h k port call) = only_if (h == i && port == p) call
begins i p (Looked h q key stood) = if h == i && q == p then read_by key (look_at (shown_after stood) key) else []
begins i p e = []

-- the calls that it has begun, in order
abbrev pub begun_at : ℕ → ℕ → List Event → List Call
begun_at i p es = gathered (begins i p) es

-- the reply that it has at this event: it takes it, or a look shows it
abbrev pub ends : ℕ → ℕ → Event → List Reply
ends i p (Got h reply) = only_if (h == i && reply.port == p) reply.reply
ends i p (Looked h q key stood) = if h == i && q == p then read_reply (look_at (shown_after stood) key) else []
ends i p e = []

-- the replies that it has, in order
abbrev pub ended_at : ℕ → ℕ → List Event → List Reply
ended_at i p es = gathered (ends i p) es

-- these replies without their notes
abbrev pub replies_in : List NotedReply → List Reply
replies_in [] = []
replies_in (r ∷ rs) = r.reply ∷ replies_in rs

-- ---- what a server was given while it went on

-- the events before server i halts
abbrev pub before_halt : ℕ → List Event → List Event
before_halt i [] = []
before_halt i (e ∷ es) = if is_halt i e then [] else e ∷ before_halt i es

-- the input that the worker of server i takes
abbrev pub takes_input : ℕ → Event → List Input
takes_input i (Taken h envelope) = if h == i then inputs_in envelope.inbox_message else []
takes_input i e = []

-- The inputs that the worker of server i took while it went on. A worker that has stopped drains its inbox: what it
-- takes then goes nowhere, and in the model it stays where it was.
abbrev pub given_to : ℕ → List Event → List Input
given_to i es = gathered (takes_input i) (before_halt i es)

-- ---- what events have left

-- calls alone
abbrev pub AreCalls : List Input → Type 0
AreCalls [] = Unit {0}
AreCalls (Called port call ∷ xs) = AreCalls xs
AreCalls (From j peer ∷ xs) = ⊥
AreCalls (Gone j ∷ xs) = ⊥

-- A server of the model is what events have left of server i:
pub record StandsForServer (s : OpenedChain) (i : ℕ) (es : List Event) (r : RunningServer) : Type 0 where
  -- its node is the one after what it has shown;
  pub node : r.node ≡ server_after (published_by s i es)
  -- its inbox has calls, and of each port those that were sent and weren't given to it (a message or a notice comes
  -- into the inbox of the model only as it is taken);
  pub only_calls : AreCalls r.inbox
  pub calls : (p : ℕ) → sent_from i p es ≡ calls_from p (given_to i es) ++ calls_from p r.inbox
  -- what it was given is what it has shown, and then what it took and hasn't shown;
  pub unpublished : given_to i es ≡ shown_by i es ++ listed r.unpublished
  -- what its steps put out is what was put, for each server and each port, and then what stands in its outbox;
  pub messages : (j : ℕ) → messages_to j (put_out (s.instances i).start (shown_by i es))
      ≡ links.messages_to j (put_by i es) ++ messages_to j r.outbox
  pub replies : (p : ℕ) → replies_to p (put_out (s.instances i).start (shown_by i es))
      ≡ replies_in (answered_at i p es) ++ replies_to p r.outbox
  -- it has stopped if it has halted.
  pub stopped : r.stopped ≡ has_halted i es

-- A seat of the model is what events have left of the seat of server i at this port: its calls, its replies, and in its
-- queue what was put for it and what it hasn't taken.
pub record StandsForSeat (i p : ℕ) (es : List Event) (t : Seat) : Type 0 where
  pub home : t.home ≡ i
  pub calls : t.calls ≡ begun_at i p es
  pub got : t.got ≡ ended_at i p es
  pub queued : replies_in (answered_at i p es) ≡ replies_in (got_at i p es) ++ t.queued

-- the home of a seat, and its port there
abbrev pub home_of : OpenedChain → ℕ → ℕ
home_of s c = slice_index_or s.homes c s.count

abbrev pub port_of : OpenedChain → ℕ → ℕ
port_of s c = port_at s.homes c (home_of s c)

-- A chain of the model is what events have left of the chain that was opened so: its servers; on each channel what was
-- put on the link and wasn't given to the receiver; and its seats.
pub record StandsForChain (s : OpenedChain) (es : List Event) (l : Chain) : Type 0 where
  pub count : l.count ≡ s.count
  pub servers : (i : ℕ) → i < s.count → StandsForServer s i es (l.servers i)
  pub channels : (i j : ℕ) → i < s.count → j < s.count
      → links.messages_to j (put_by i es) ≡ all_messages_from i (given_to j es) ++ l.channels i j
  pub seats : (c : ℕ) → StandsForSeat (home_of s c) (port_of s c) es (l.seats c)

-- ---- the moves

-- the seat that has port p at server i, by the homes of the seats; a port that no seat has counts on after all seats
abbrev pub seat_in : List ℕ → ℕ → ℕ → ℕ
seat_in [] i p = p
seat_in (home ∷ homes) i zero = if home == i then 0 else suc (seat_in homes i zero)
seat_in (home ∷ homes) i (suc p) = if home == i then suc (seat_in homes i p) else suc (seat_in homes i (suc p))

-- the moves of a server that goes on and takes this: a message arrives, and a notice comes, just before it is taken
abbrev pub moves_of_taking : ℕ → InboxMessage → List Move
moves_of_taking i (Took (Called port call)) = Takes i (OfSeat port) ∷ []
moves_of_taking i (Took (From j peer)) = Arrives j i ∷ Takes i (OfServer j) ∷ []
moves_of_taking i (Took (Gone j)) = Notices i j ∷ Takes i OfNotices ∷ []
moves_of_taking i Stop = []
moves_of_taking i End = []

-- the moves that an event is, after those before it
abbrev pub moves_of : OpenedChain → List Event → Event → List Move
moves_of s before (Sent i k port call) = Sends (seat_in s.homes i port) call ∷ []
moves_of s before (Brought i k message) = []
moves_of s before (Taken i envelope) =
    if has_halted i before then [] else moves_of_taking i envelope.inbox_message
moves_of s before (Shown i input) = Publishes i ∷ []
moves_of s before (Put i j peer) = Puts i j ∷ []
moves_of s before (Answered i reply) = Replies i (seat_in s.homes i reply.port) ∷ []
moves_of s before (HandedBack i port) = []
moves_of s before (Got i reply) = Receives (seat_in s.homes i reply.port) ∷ []
moves_of s before (Looked i q key stood) = Looks (seat_in s.homes i q) key ∷ []
moves_of s before (Halted i) = Stops i ∷ []
moves_of s before (Broke i j) = []

-- the moves that these events are, after those before them
abbrev pub all_moves_after : OpenedChain → List Event → List Event → List Move
all_moves_after s before [] = []
all_moves_after s before (e ∷ es) = moves_of s before e ++ all_moves_after s (before ++ e ∷ []) es

-- the moves that these events are
abbrev pub all_moves : OpenedChain → List Event → List Move
all_moves s es = all_moves_after s [] es
