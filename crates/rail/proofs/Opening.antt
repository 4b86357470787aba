-- What a server is opened with.
use Rattle.std.proofs.Common.{◌≡◌, ◌∙◌, ap, refl, ℕ, ◌+◌, zero, suc, List, [], ◌∷◌, ◌++◌, length, true, arith}
use Rattle.std.specs.Coded.{codes}
use mathlib.Core.HLevel.{is_prop→PathP}
use Rattle.atomic_table.specs.Seated.{TableId}
use Rattle.logbook.specs.Pages.{book_coded}
use Rattle.versions.specs.Stores.{coded_items}
use Rattle.node.specs.Nodes.{NodeState, is_idle}
use Rattle.node.specs.Replies.{AreOpenBelow}
use Rattle.node.proofs.PortLaws.{idle-none_open}
use Rattle.faces.specs.Histories.{Instance}
use Rattle.faces.specs.Readers.{yet_to_look}
use Rattle.rail.specs.declared.thread_handles.ThreadHandle.{ThreadHandle}
use Rattle.rail.specs.CallSenders.{call_sender_at}
use Rattle.rail.specs.Inlets.{InletState, inlet_at, inlets_from}
use Rattle.rail.specs.NotedReplies.{ReplySenderState, reply_sender_at}
use Rattle.rail.specs.Seats.{SeatState}
use Rattle.rail.specs.Turns.{AreReplySenders}
use Rattle.rail.specs.Servers.{history_at, reply_senders_from, seat_at, seats_from, thread_handle_at}
use Rattle.rail.specs.Servers.{thread_handles_from}

pub more_reply_senders : (o : Instance) (k n m : ℕ) → m ≡ k + n
    → reply_senders_from o k (n + 1) ≡ reply_senders_from o k n ++ reply_sender_at o m ∷ []
more_reply_senders o k zero m is = ap (λ (j : ℕ). reply_sender_at o j ∷ []) (let e : k ≡ m = omega (arith, is) in e)
more_reply_senders o k (suc n) m is =
    let e : suc n + 1 ≡ suc (n + 1) = omega arith in
    ap (reply_senders_from o k) e ∙ ap (λ (ps : List ReplySenderState). reply_sender_at o k ∷ ps)
    (more_reply_senders o (k + 1) n m (omega (arith, is)))

pub more_thread_handles : (o : Instance) (b : TableId) (k n m : ℕ)
    → m ≡ k + n
    → thread_handles_from o b k (n + 1) ≡ thread_handles_from o b k n ++ thread_handle_at o b m ∷ []
more_thread_handles o b k zero m is = ap (λ (j : ℕ). thread_handle_at o b j ∷ []) (let e : k ≡ m = omega
    (arith, is) in e)
more_thread_handles o b k (suc n) m is =
    let e : suc n + 1 ≡ suc (n + 1) = omega arith in
    ap (thread_handles_from o b k) e ∙ ap (λ (ps : List ThreadHandle). thread_handle_at o b k ∷ ps)
    (more_thread_handles o b (k + 1) n m (omega (arith, is)))

pub seats_more : (o : Instance) (k n m : ℕ)
    → m ≡ k + n
    → seats_from o k (n + 1) ≡ seats_from o k n ++ seat_at o m ∷ []
seats_more o k zero m is = ap (λ (j : ℕ). seat_at o j ∷ []) (let e : k ≡ m = omega (arith, is) in e)
seats_more o k (suc n) m is =
    let e : suc n + 1 ≡ suc (n + 1) = omega arith in
    ap (seats_from o k) e ∙ ap (λ (ss : List SeatState). seat_at o k ∷ ss)
    (seats_more o (k + 1) n m (omega (arith, is)))

pub inlets_more : (b : TableId) (k n m : ℕ)
    → m ≡ k + n
    → inlets_from b k (n + 1) ≡ inlets_from b k n ++ inlet_at b m ∷ []
inlets_more b k zero m is = ap (λ (j : ℕ). inlet_at b j ∷ []) (let e : k ≡ m = omega (arith, is) in e)
inlets_more b k (suc n) m is =
    let e : suc n + 1 ≡ suc (n + 1) = omega arith in
    ap (inlets_from b k) e ∙ ap (λ (xs : List InletState). inlet_at b k ∷ xs)
    (inlets_more b (k + 1) n m (omega (arith, is)))

-- the reply senders of the first n ports and of one more
pub next_reply_senders : (o : Instance) (k n m : ℕ)
    → m ≡ k + n
    → reply_senders_from o 0 (k + (n + 1)) ≡ reply_senders_from o 0 m ++ reply_sender_at o m ∷ []
next_reply_senders o k n m is =
    let e : k + (n + 1) ≡ m + 1 = omega (arith, is) in
    ap (reply_senders_from o 0) e ∙ more_reply_senders o 0 m m (omega arith)

pub are_opened : (o : Instance) (k n : ℕ) → AreReplySenders o k (reply_senders_from o k n)
are_opened o k zero = tt
are_opened o k (suc n) = (refl, are_opened o (k + 1) n)

pub length_opened : (o : Instance) (k n : ℕ) → length (reply_senders_from o k n) ≡ n
length_opened o k zero = refl
length_opened o k (suc n) = ap suc (length_opened o (k + 1) n)

-- an idle server has no open call
pub idle_below : (n : NodeState) (ports : ℕ) → is_idle n ≡ true → AreOpenBelow ports n.server
idle_below n ports idle = λ port reads above. idle-none_open n port reads idle

-- a reader that hasn't looked, a seat before any call and a sender that sent nothing make that thread handle
pub is_thread_handle_at : (o : Instance) (b : TableId) (k : ℕ) (s : ThreadHandle)
    → s.reader ≡ yet_to_look (history_at o)
    → s.seat ≡ seat_at o k
    → s.call_sender ≡ call_sender_at o b k
    → s ≡ thread_handle_at o b k
is_thread_handle_at o b k s reader seat call_sender = λ i. record {
  reader = reader i;
  seat = seat i;
  call_sender = call_sender i;
  together = is_prop→PathP (λ j. (seat j).instance ≡ (reader j).seen.instance)
      (λ j. hlevel (codes, coded_items, book_coded)) s.together refl i;
  sends = is_prop→PathP (λ j. (call_sender j).instance ≡ (reader j).seen.instance)
      (λ j. hlevel (codes, coded_items, book_coded)) s.sends refl i;
}
