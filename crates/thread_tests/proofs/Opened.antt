-- The seats of a server that was opened.
use Rattle.std.proofs.Common.{◌+◌, ℕ, zero, suc, List, All, refl, subst, sym}
use Rattle.std.proofs.lemmas.List.Elements.{All-nil, All-cons}
use Rattle.atomic_table.specs.Seated.{TableId}
use Rattle.node.specs.Nodes.{NodeState}
use Rattle.faces.specs.Histories.{Instance}
use Rattle.rail.specs.declared.thread_handles.ThreadHandle.{ThreadHandle}
use Rattle.rail.specs.Inlets.{InletState}
use Rattle.rail.specs.Seats.{SeatState}
use Rattle.rail.specs.Servers.{IsOpened, thread_handle_at, thread_handles_from}
use Rattle.rail.specs.Workers.{WorkerState}
use Rattle.seats.specs.Replies.{HasAllReplies}

all_from : (o : Instance) (b : TableId) (k n : ℕ)
    → All (λ (thread_handle : ThreadHandle). HasAllReplies thread_handle.seat) (thread_handles_from o b k n)
all_from o b k zero = All-nil (λ (thread_handle : ThreadHandle). HasAllReplies thread_handle.seat)
all_from o b k (suc n) =
    All-cons (λ (thread_handle : ThreadHandle). HasAllReplies thread_handle.seat) (thread_handle_at o b k)
    (thread_handles_from o b (k + 1) n) refl
    (all_from o b (k + 1) n)

-- no call was made at the seats of the thread handles
pub opened_replied : (node : NodeState) (readers more inlets : ℕ) (w : WorkerState) (beside : List ThreadHandle)
    (others : List SeatState) (brought : List InletState)
    → IsOpened node readers more inlets w beside others brought
    → All (λ (thread_handle : ThreadHandle). HasAllReplies thread_handle.seat) beside
opened_replied node readers more inlets w beside others brought opened =
    subst (All (λ (thread_handle : ThreadHandle). HasAllReplies thread_handle.seat)) (sym opened.thread_handles)
    (all_from opened.instance opened.inbox 0 readers)
