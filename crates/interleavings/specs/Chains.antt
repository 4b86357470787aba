-- The running chain: servers with their inboxes, channels, and seats with their queues.
use Rattle.std.specs.Prelude.{ℕ, Bool, true, false, not, ◌==◌, nat_lt, List, [], ◌∷◌, ◌++◌, slice_index_or, Option}
use Rattle.std.specs.Prelude.{None, Some, if◌then◌else◌}
use Rattle.table.specs.declared.operations.Call.{Call}
use Rattle.table.specs.declared.operations.Reply.{Reply}
use Rattle.node.specs.declared.messages.Peer.{Peer}
use Rattle.node.specs.declared.messages.Input.{Input}
use Rattle.node.specs.declared.messages.Input.TheVariants.{Call as Called, From, Gone}
use Rattle.node.specs.declared.messages.Output.{Output}
use Rattle.node.specs.declared.messages.Output.TheVariants.{To, Reply as Replied}
use Rattle.node.specs.Servers.{ServerState, opening}

-- A running server: its node after all that it has published, of which readers see the face; what its inbox holds, the
-- oldest first; the input that it has taken and whose step is unpublished; what is left to put of the steps that were
-- published, in order; and whether it has stopped.
pub record RunningServer : Type 0 where
  pub node : ServerState
  pub inbox : List Input
  pub unpublished : Option Input
  pub outbox : List Output
  pub stopped : Bool

-- A seat: the server that it is at, its calls in the order in which they began, the replies that it has, and those that
-- stand in its queue.
pub record Seat : Type 0 where
  pub home : ℕ
  pub calls : List Call
  pub got : List Reply
  pub queued : List Reply

-- A running chain: how many servers it has; the servers, by their numbers; the channel from each to each with its
-- messages, the oldest first; and the seats, which are numbered over the whole chain.
pub record Chain : Type 0 where
  pub count : ℕ
  pub servers : ℕ → RunningServer
  pub channels : ℕ → ℕ → List Peer
  pub seats : ℕ → Seat

-- ---- changes of one part

-- these, with this one at place i
unfoldable pub with_at : {X : Type 0} → (ℕ → X) → ℕ → X → ℕ → X
with_at f i x k = if k == i then x else f k

-- the chain with this as server i
abbrev pub with_running : Chain → ℕ → RunningServer → Chain
with_running l i s = record l { servers = with_at l.servers i s }

-- with these messages on the channel from i to j
abbrev pub with_channel : Chain → ℕ → ℕ → List Peer → Chain
with_channel l i j ms = record l { channels = with_at l.channels i (with_at (l.channels i) j ms) }

-- with this as seat c
abbrev pub with_seat : Chain → ℕ → Seat → Chain
with_seat l c s = record l { seats = with_at l.seats c s }

-- ---- a chain before any move

-- a server that isn't of the chain counts as one that has stopped
abbrev pub opening_running : ℕ → ℕ → RunningServer
opening_running count i =
    record { node = opening i count; inbox = []; unpublished = None; outbox = []; stopped = not (nat_lt i count) }

-- a seat that has begun nothing
abbrev pub opening_seat : ℕ → Seat
opening_seat home = record { home = home; calls = []; got = []; queued = [] }

-- a chain of `count` servers, with a seat at each of these homes; any other seat is at no server of it
abbrev pub opening_chain : ℕ → List ℕ → Chain
opening_chain count homes =
    record {
      count = count;
      servers = opening_running count;
      channels = λ i j. [];
      seats = λ c. opening_seat (slice_index_or homes c count);
    }

-- ---- what waits at a server, in a list of inputs, and in a list of outputs

-- the one there is, or none
abbrev pub listed : {X : Type 0} → Option X → List X
listed None = []
listed (Some x) = x ∷ []

-- the inputs whose steps a server has still to publish, the oldest first: the one that it has taken, and its inbox
abbrev pub queue : RunningServer → List Input
queue s = listed s.unpublished ++ s.inbox

-- the messages from server i among these, in order
abbrev pub messages_from : ℕ → List Input → List Peer
messages_from i [] = []
messages_from i (Called c call ∷ xs) = messages_from i xs
messages_from i (From j m ∷ xs) = if j == i then m ∷ messages_from i xs else messages_from i xs
messages_from i (Gone j ∷ xs) = messages_from i xs

-- the calls of seat c among these
abbrev pub calls_from : ℕ → List Input → List Call
calls_from c [] = []
calls_from c (Called d call ∷ xs) = if d == c then call ∷ calls_from c xs else calls_from c xs
calls_from c (From j m ∷ xs) = calls_from c xs
calls_from c (Gone j ∷ xs) = calls_from c xs

-- the messages to server j among these, in order
abbrev pub messages_to : ℕ → List Output → List Peer
messages_to j [] = []
messages_to j (To to m ∷ os) = if to == j then m ∷ messages_to j os else messages_to j os
messages_to j (Replied c reply ∷ os) = messages_to j os

-- these without the first message to server j
abbrev pub without_message : ℕ → List Output → List Output
without_message j [] = []
without_message j (To to m ∷ os) = if to == j then os else To to m ∷ without_message j os
without_message j (Replied c reply ∷ os) = Replied c reply ∷ without_message j os

-- the replies to seat c among these, in order
abbrev pub replies_to : ℕ → List Output → List Reply
replies_to c [] = []
replies_to c (To to m ∷ os) = replies_to c os
replies_to c (Replied d reply ∷ os) = if d == c then reply ∷ replies_to c os else replies_to c os

-- these without the first reply to seat c
abbrev pub without_reply : ℕ → List Output → List Output
without_reply c [] = []
without_reply c (To to m ∷ os) = To to m ∷ without_reply c os
without_reply c (Replied d reply ∷ os) = if d == c then os else Replied d reply ∷ without_reply c os

-- Whose an input is: a seat's, a server's, or of those who tell of failures.
pub data Sender : Type 0 where
  OfSeat : (c : ℕ) → Sender
  OfServer : (j : ℕ) → Sender
  OfNotices : Sender

-- the input is one of this sender
abbrev pub is_of : Sender → Input → Bool
is_of (OfSeat c) (Called d call) = d == c
is_of (OfSeat c) (From j m) = false
is_of (OfSeat c) (Gone j) = false
is_of (OfServer j) (Called d call) = false
is_of (OfServer j) (From k m) = k == j
is_of (OfServer j) (Gone k) = false
is_of OfNotices (Called d call) = false
is_of OfNotices (From k m) = false
is_of OfNotices (Gone k) = true

-- the first input of a sender, and the others
abbrev pub first_of : Sender → List Input → Option Input
first_of s [] = None
first_of s (x ∷ xs) = if is_of s x then Some x else first_of s xs

-- these without the first input of a sender
abbrev pub without_first_of : Sender → List Input → List Input
without_first_of s [] = []
without_first_of s (x ∷ xs) = if is_of s x then xs else x ∷ without_first_of s xs
