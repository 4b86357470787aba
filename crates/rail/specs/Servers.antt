-- A server that was opened.
use Rattle.std.specs.Prelude.{◌≡◌, ℕ, zero, suc, ◌+◌, true, List, [], ◌∷◌, refl}
use Rattle.atomic_table.specs.Seated.{TableId}
use Rattle.node.specs.Nodes.{NodeState}
use Rattle.faces.specs.Histories.{Instance, History}
use Rattle.faces.specs.Readers.{yet_to_look}
use Rattle.rail.specs.declared.thread_handles.ThreadHandle.{ThreadHandle}
use Rattle.rail.specs.CallSenders.{call_sender_at}
use Rattle.rail.specs.Inlets.{InletState, inlets_from}
use Rattle.rail.specs.NotedReplies.{ReplySenderState, reply_sender_at}
use Rattle.rail.specs.Seats.{SeatState}
use Rattle.rail.specs.Workers.{WorkerState}

-- a server's history before any input
abbrev pub history_at : Instance → History
history_at o = record { instance = o; inputs = [] }

-- the reply senders of n ports, from port k on
abbrev pub reply_senders_from : Instance → ℕ → ℕ → List ReplySenderState
reply_senders_from o k zero = []
reply_senders_from o k (suc n) = reply_sender_at o k ∷ reply_senders_from o (k + 1) n

-- the seat of port k before any call
abbrev pub seat_at : Instance → ℕ → SeatState
seat_at o k = record { instance = o; port = k; calls = []; got = [] }

-- the seats of n ports, from port k on
abbrev pub seats_from : Instance → ℕ → ℕ → List SeatState
seats_from o k zero = []
seats_from o k (suc n) = seat_at o k ∷ seats_from o (k + 1) n

-- a reader that has seen no input and hasn't looked, the seat of port k before any call, and a sender of calls that
-- sent nothing, which sends to this inbox as number k
abbrev pub thread_handle_at : Instance → TableId → ℕ → ThreadHandle
thread_handle_at o b k =
    record {
      reader = yet_to_look (history_at o);
      seat = seat_at o k;
      call_sender = call_sender_at o b k;
      together = refl;
      sends = refl;
    }

-- the thread handles of n ports, from port k on
abbrev pub thread_handles_from : Instance → TableId → ℕ → ℕ → List ThreadHandle
thread_handles_from o b k zero = []
thread_handles_from o b k (suc n) = thread_handle_at o b k ∷ thread_handles_from o b (k + 1) n

-- A worker, thread handles, more seats and inlets of one running server, which begins as this node, before any input.
-- The seats have the ports after those of the thread handles. The senders of the thread handles send to the worker's
-- inbox, each by its port as its number, and the numbers of the inlets follow.
pub record IsOpened (node : NodeState) (readers more inlets : ℕ) (w : WorkerState) (beside : List ThreadHandle)
    (others : List SeatState) (brought : List InletState) : Type 0 where
  pub instance : Instance
  pub inbox : TableId
  pub start : instance.start ≡ node.server
  pub worker : w ≡ record {
    inbox = inbox;
    taken = [];
    published = history_at instance;
    goes = true;
    reply_senders = reply_senders_from instance 0 (readers + more);
  }
  pub thread_handles : beside ≡ thread_handles_from instance inbox 0 readers
  pub seats : others ≡ seats_from instance readers more
  pub brought_by : brought ≡ inlets_from inbox readers inlets
