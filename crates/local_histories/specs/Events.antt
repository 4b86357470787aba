-- What one instant of a running chain did, in the words of the contracts of the code.
use Rattle.std.specs.Prelude.{ℕ, List, Bool, false, ◌==◌}
use Rattle.table.specs.declared.operations.Call.{Call}
use Rattle.node.specs.declared.messages.Peer.{Peer}
use Rattle.node.specs.declared.messages.Input.{Input}
use Rattle.faces.specs.Histories.{History}
use Rattle.rail.specs.declared.inbox_messages.InboxMessage.{InboxMessage}
use Rattle.rail.specs.declared.inbox_messages.Envelope.{Envelope}
use Rattle.rail.specs.NotedReplies.{NotedReply}

-- An event: one instant of one server's worker, of its links, of who sends to its inbox, of a seat, or of a reader.
-- Beside each stands the crate, the function and the clause that say what the instant does to that one object.
pub data Event : Type 0 where
  -- Sender k of server i sends this call from this port into the inbox of i.
  -- `rail`, `CallSender::submit`: `sender` (`with_call`) and `seat` (`with_sent`).
  Sent : (i k port : ℕ) (call : Call) → Event
  -- Sender k of server i, which is an inlet, brings this into the inbox of i: a message, a notice, or the word to stop
  -- or to end. `rail`, `Inlet::bring`, `gone`, `stop`, `end`: `ok` (`with_inbox_message`).
  Brought : (i k : ℕ) (message : InboxMessage) → Event
  -- The worker of server i takes this out of its inbox.
  -- `rail`, `Inbox::take`, `try_take`: `taken` (`HasGot`); of a turn `Worker::turn`: `turn` (`HasTaken`).
  Taken : (i : ℕ) (envelope : Envelope) → Event
  -- Server i shows the face after this input.
  -- `faces`, `Publisher::take`: `published` (`with_next`); of a turn `HasGone.published`, `IsCut`.
  Shown : (i : ℕ) (input : Input) → Event
  -- Server i puts this message on its link to server j.
  -- `rail`, `Links::put`: `ok`; of a turn `HasPut.list`. In one process the same instant is a `Brought` at j.
  Put : (i j : ℕ) (peer : Peer) → Event
  -- Server i puts this reply into the queue of the seat at the reply's port.
  -- `rail`, `ReplySender::put`: `put` (`HasPutReplies.put`); of a turn `HasReplied`.
  Answered : (i : ℕ) (reply : NotedReply) → Event
  -- The queue of the seat at this port hands a reply back to server i: the seat is gone.
  -- `rail`, `ReplySender::put`: `put` (`HasPutReplies.left`).
  HandedBack : (i port : ℕ) → Event
  -- The seat of server i at the reply's port takes this reply.
  -- `rail`, `Seat::reply`, `reply_if_any`: `got` (`with_reply`).
  Got : (i : ℕ) (reply : NotedReply) → Event
  -- Reader q of server i looks at this key, and the face after this history stands. A look that is refused, as memory
  -- is out for the item, shows its caller nothing, and is no event.
  -- `faces`, `Reader::look`: `looked` (`Looking.looks`) and `found`.
  Looked : (i q : ℕ) (key : List ℕ) (stood : History) → Event
  -- The face of server i is taken away, or the process of i has ended.
  -- `rail`, `Worker::turn`: `turn` (`IsStopped`, `WasCut`, `HasClosed`); `faces`, `Publisher::end`, which has no
  -- clause.
  Halted : (i : ℕ) → Event
  -- The link of server i to server j fails once more.
  -- `rail`, `Links::put`: `failures`, `fault`.
  Broke : (i j : ℕ) → Event

-- the event is one of the worker of server i and of its links: it lies in a turn, between two, or ends them
abbrev pub is_of_worker : ℕ → Event → Bool
is_of_worker i (Sent h k port call) = false
is_of_worker i (Brought h k message) = false
is_of_worker i (Taken h envelope) = h == i
is_of_worker i (Shown h input) = h == i
is_of_worker i (Put h j peer) = h == i
is_of_worker i (Answered h reply) = h == i
is_of_worker i (HandedBack h port) = h == i
is_of_worker i (Got h reply) = false
is_of_worker i (Looked h q key stood) = false
is_of_worker i (Halted h) = h == i
is_of_worker i (Broke h j) = h == i
