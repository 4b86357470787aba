-- Thread handles and seats that are dealt out to threads.
use Rattle.std.specs.Prelude.{◌≡◌, ℕ, zero, suc, ◌+◌, true, List, [], ◌∷◌, All, map}
use Rattle.atomic_table.specs.Seated.{TableId}
use Rattle.node.specs.Nodes.{NodeState}
use Rattle.faces.specs.Histories.{Instance}
use Rattle.rail.specs.declared.thread_handles.ThreadHandle.{ThreadHandle}
use Rattle.rail.specs.CallSenders.{CallSenderState, call_sender_at}
use Rattle.rail.specs.Seats.{SeatState}
use Rattle.rail.specs.Workers.{WorkerState}
use Rattle.seats.specs.Replies.{HasAllReplies}
use Rattle.seats.specs.SeatPools.{Pooling}

-- a seat of this server, which took as many replies as it sent calls
abbrev pub IsRepliedAt : Instance → SeatState → Type 0
IsRepliedAt instance seat = (seat.instance ≡ instance) × HasAllReplies seat

-- these pools of seats are all of this server
abbrev pub AreAllAt : Instance → List Pooling → Type 0
AreAllAt instance pools = All (λ pool. pool.seen.instance ≡ instance) pools

-- the senders of these pools, and of these thread handles
abbrev pub pools_senders : List Pooling → List CallSenderState
pools_senders pools = map (λ pool. pool.sender) pools

abbrev pub handles_senders : List ThreadHandle → List CallSenderState
handles_senders thread_handles = map (λ thread_handle. thread_handle.call_sender) thread_handles

-- n senders of a server that sent nothing, which send to this inbox, numbered from k on
abbrev pub senders_from : Instance → TableId → ℕ → ℕ → List CallSenderState
senders_from o b k zero = []
senders_from o b k (suc n) = call_sender_at o b k ∷ senders_from o b (k + 1) n

-- These thread handles, these seats, and these pools of seats, are all of this server, and no call waits at any of the
-- seats.
pub record AreOf (instance : Instance) (left : List ThreadHandle) (more : List SeatState) (made : List Pooling) : Type
    0 where
  pub thread_handles : All (λ thread_handle. IsRepliedAt instance thread_handle.seat) left
  pub seats : All (IsRepliedAt instance) more
  pub pools : All (λ pool. pool.seen.instance ≡ instance) made

-- A worker of a server that began as this node, before any input.
pub record BeginsAs (node : NodeState) (w : WorkerState) : Type 0 where
  pub start : w.published.instance.start ≡ node.server
  pub inputs : w.published.inputs ≡ []
  pub taken : w.taken ≡ []
  pub goes : w.goes ≡ true
