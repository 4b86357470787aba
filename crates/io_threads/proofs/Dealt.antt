-- The thread handles and the seats of a server that was opened.
use Rattle.std.proofs.Common.{◌≡◌, ◌∙◌, ◌∷◌, ◌++◌, ◌+◌, ℕ, zero, suc, List, [], All, length, refl, ap, set, subst}
use Rattle.std.proofs.Common.{append-nil, append_assoc, arith, get_or, sym}
use Rattle.std.proofs.lemmas.List.Elements.{All-nil, All-append, All-cons, All-head, All-set, All-tail, All-weaker}
use Rattle.atomic_table.specs.Seated.{TableId}
use Rattle.node.specs.Nodes.{NodeState}
use Rattle.faces.specs.Histories.{Instance}
use Rattle.rail.specs.declared.thread_handles.ThreadHandle.{ThreadHandle}
use Rattle.rail.specs.CallSenders.{CallSenderState, call_sender_at}
use Rattle.rail.specs.Inlets.{InletState, LeadTo, inlet_at, inlets_from}
use Rattle.rail.specs.Seats.{SeatState}
use Rattle.rail.specs.Servers.{IsOpened, seat_at, seats_from, thread_handle_at, thread_handles_from}
use Rattle.rail.specs.Workers.{WorkerState}
use Rattle.seats.specs.Replies.{HasAllReplies}
use Rattle.seats.specs.SeatPools.{Pooling}
use Rattle.io_threads.specs.Pools.{AreAllAt, AreOf, BeginsAs, IsRepliedAt, handles_senders, pools_senders, senders_from}

-- all are of this server, and sent nothing
all_at : (o : Instance) (b : TableId) (k n : ℕ)
    → All (λ (thread_handle : ThreadHandle). IsRepliedAt o thread_handle.seat) (thread_handles_from o b k n)
all_at o b k zero = All-nil (λ (thread_handle : ThreadHandle). IsRepliedAt o thread_handle.seat)
all_at o b k (suc n) =
    All-cons (λ (thread_handle : ThreadHandle). IsRepliedAt o thread_handle.seat) (thread_handle_at o b k)
    (thread_handles_from o b (k + 1) n) (refl, refl)
    (all_at o b (k + 1) n)

all_seats_at : (o : Instance) (k n : ℕ) → All (IsRepliedAt o) (seats_from o k n)
all_seats_at o k zero = All-nil (IsRepliedAt o)
all_seats_at o k (suc n) =
    All-cons (IsRepliedAt o) (seat_at o k) (seats_from o (k + 1) n) (refl, refl) (all_seats_at o (k + 1) n)

all_senders : (o : Instance) (b : TableId) (k n : ℕ)
    → handles_senders (thread_handles_from o b k n) ≡ senders_from o b k n
all_senders o b k zero = refl
all_senders o b k (suc n) = ap (λ (ss : List CallSenderState). call_sender_at o b k ∷ ss) (all_senders o b (k + 1) n)

length_from : (o : Instance) (b : TableId) (k n : ℕ) → length (thread_handles_from o b k n) ≡ n
length_from o b k zero = refl
length_from o b k (suc n) = ap suc (length_from o b (k + 1) n)

module _ (node : NodeState) (readers more inlets : ℕ) (w : WorkerState) (beside : List ThreadHandle)
    (others : List SeatState)
    (brought : List InletState) (opened : IsOpened node readers more inlets w beside others brought) where
  -- the thread handles and the seats of a server that was opened are all of its worker's server, and no pool is of
  -- another
  opened_at : AreOf w.published.instance beside others []
  opened_at =
      let same : w.published.instance ≡ opened.instance =
      ap (λ (v : WorkerState). v.published.instance) opened.worker in
      let are : AreOf opened.instance beside others [] =
      record {
        thread_handles = subst (All (λ (thread_handle : ThreadHandle). IsRepliedAt opened.instance thread_handle.seat))
            (sym opened.thread_handles)
            (all_at opened.instance opened.inbox 0 readers);
        seats = subst (All (IsRepliedAt opened.instance)) (sym opened.seats)
            (all_seats_at opened.instance readers more);
        pools = All-nil (λ (pool : Pooling). pool.seen.instance ≡ opened.instance);
      } in
      subst (λ (o : Instance). AreOf o beside others []) (sym same) are

  -- so they are of one server
  pub opened_of_one : (o : Instance) × AreOf o beside others []
  opened_of_one = (w.published.instance, opened_at)

  -- the pools that were made of them are all of its worker's server
  pub opened_pools : (pools : List Pooling) → ((o : Instance) → AreOf o beside others [] → AreAllAt o pools)
      → AreAllAt w.published.instance pools
  opened_pools pools all = all w.published.instance opened_at

  -- there is a thread handle for each reader
  pub opened_handles : length beside ≡ readers
  opened_handles = ap length opened.thread_handles ∙ length_from opened.instance opened.inbox 0 readers

  -- the pools that were made of them have the senders of their thread handles
  pub opened_senders : (pools : List Pooling) → pools_senders pools ≡ handles_senders beside
      → pools_senders pools ≡ senders_from w.published.instance w.inbox 0 readers
  opened_senders pools same =
      let instance : opened.instance ≡ w.published.instance =
      sym (ap (λ (v : WorkerState). v.published.instance) opened.worker) in
      let inbox : opened.inbox ≡ w.inbox = sym (ap (λ (v : WorkerState). v.inbox) opened.worker) in
      same ∙ (ap handles_senders opened.thread_handles ∙ (all_senders opened.instance opened.inbox 0 readers
      ∙ (λ i. senders_from (instance i) (inbox i) 0 readers)))

  -- its worker begins as the node
  pub opened_worker : BeginsAs node w
  opened_worker =
      record {
        start = ap (λ (v : WorkerState). v.published.instance.start) opened.worker ∙ opened.start;
        inputs = ap (λ (v : WorkerState). v.published.inputs) opened.worker;
        taken = ap (λ (v : WorkerState). v.taken) opened.worker;
        goes = ap (λ (v : WorkerState). v.goes) opened.worker;
      }

all_lead : (b : TableId) (k n : ℕ) → LeadTo b (inlets_from b k n)
all_lead b k zero = All-nil (λ (inlet : InletState). inlet.inbox ≡ b)
all_lead b k (suc n) =
    All-cons (λ (inlet : InletState). inlet.inbox ≡ b) (inlet_at b k) (inlets_from b (k + 1) n) refl
    (all_lead b (k + 1) n)

-- the inlets of a server that was opened lead to its worker's inbox
pub opened_lead : (node : NodeState) (readers more inlets : ℕ) (w : WorkerState) (beside : List ThreadHandle)
    (others : List SeatState) (brought : List InletState)
    → IsOpened node readers more inlets w beside others brought → LeadTo w.inbox brought
opened_lead node readers more inlets w beside others brought opened =
    let at : opened.inbox ≡ w.inbox = sym (ap (λ (v : WorkerState). v.inbox) opened.worker) in
    subst (LeadTo w.inbox) (sym opened.brought_by)
    (subst (λ (b : TableId). LeadTo b (inlets_from opened.inbox readers inlets)) at
    (all_lead opened.inbox readers inlets))

-- one more pool of this server
pub one_more : (o : Instance) (pools after : List Pooling) (pool : Pooling)
    → All (λ (p : Pooling). p.seen.instance ≡ o) pools → pool.seen.instance ≡ o → after ≡ pools ++ pool ∷ []
    → All (λ (p : Pooling). p.seen.instance ≡ o) after
one_more o pools after pool all new same =
    subst (All (λ (p : Pooling). p.seen.instance ≡ o)) (sym same)
    (All-append (λ (p : Pooling). p.seen.instance ≡ o) pools (pool ∷ []) all
    (All-cons (λ (p : Pooling). p.seen.instance ≡ o) pool [] new (All-nil (λ (p : Pooling). p.seen.instance ≡ o))))

-- and its sender
pub one_sender_more : (pools after : List Pooling) (pool : Pooling) (sender : CallSenderState)
    → pool.sender ≡ sender
    → after ≡ pools ++ pool ∷ []
    → pools_senders after ≡ pools_senders pools ++ sender ∷ []
one_sender_more pools after pool sender same e =
    ap pools_senders e ∙ (by pools ∙ ap (λ (x : CallSenderState). pools_senders pools ++ x ∷ []) same)
  where
    by : (ps : List Pooling) → pools_senders (ps ++ pool ∷ []) ≡ pools_senders ps ++ pool.sender ∷ []
    by [] = refl
    by (p ∷ ps) = ap (λ (ss : List CallSenderState). p.sender ∷ ss) (by ps)

-- one pool has changed
pub one_changed : (o : Instance) (pools after : List Pooling) (place : ℕ) (pool : Pooling)
    → All (λ (p : Pooling). p.seen.instance ≡ o) pools → pool.seen.instance ≡ o → after ≡ set pools place pool
    → All (λ (p : Pooling). p.seen.instance ≡ o) after
one_changed o pools after place pool all new same =
    subst (All (λ (p : Pooling). p.seen.instance ≡ o)) (sym same)
    (All-set (λ (p : Pooling). p.seen.instance ≡ o) pools place pool new all)

-- but for its sender
pub senders_same : (pools : List Pooling) (place : ℕ) (before pool : Pooling)
    → before ≡ get_or pools place before
    → pool.sender ≡ before.sender
    → pools_senders (set pools place pool) ≡ pools_senders pools
senders_same [] place before pool at same = refl
senders_same (p ∷ pools) zero before pool at same =
    ap (λ (x : CallSenderState). x ∷ pools_senders pools) (same ∙ ap (λ (q : Pooling). q.sender) at)
senders_same (p ∷ pools) (suc place) before pool at same =
    ap (λ (ss : List CallSenderState). p.sender ∷ ss) (senders_same pools place before pool at same)

-- no pool was made yet
pub none_made : (o : Instance) (thread_handles left : List ThreadHandle) (others : List SeatState)
    (pools : List Pooling)
    → left ≡ thread_handles
    → pools ≡ []
    → AreOf o thread_handles others []
    → AreOf o left others pools
none_made o thread_handles left others pools same none are =
    record {
      thread_handles = subst (All (λ (h : ThreadHandle). IsRepliedAt o h.seat)) (sym same) are.thread_handles;
      seats = are.seats;
      pools = subst (All (λ (pool : Pooling). pool.seen.instance ≡ o)) (sym none) are.pools;
    }

-- the same by what the list of thread handles is
pub as_left : (o : Instance) (left next : List ThreadHandle) (others : List SeatState) (pools : List Pooling)
    → left ≡ next
    → AreOf o left others pools
    → AreOf o next others pools
as_left o left next others pools same are = subst (λ (l : List ThreadHandle). AreOf o l others pools) same are

-- the same by what the list of seats is
pub as_more : (o : Instance) (more next : List SeatState) (pools : List Pooling)
    → more ≡ next
    → AreOf o [] more pools
    → AreOf o [] next pools
as_more o more next pools same are = subst (λ (l : List SeatState). AreOf o [] l pools) same are

module _ (o : Instance) (thread_handle : ThreadHandle) (rest : List ThreadHandle) (more : List SeatState)
    (pools : List Pooling)
    (are : AreOf o (thread_handle ∷ rest) more pools) where
  -- the next thread handle is of this server
  next_handle : IsRepliedAt o thread_handle.seat
  next_handle = All-head (λ (s : ThreadHandle). IsRepliedAt o s.seat) thread_handle rest are.thread_handles

  -- the pools are of the server of the next thread handle
  pub may_be_made : All (λ (pool : Pooling). pool.seen.instance ≡ thread_handle.seat.instance) pools
  may_be_made =
      All-weaker (λ (pool : Pooling). pool.seen.instance ≡ o)
      (λ (pool : Pooling). pool.seen.instance ≡ thread_handle.seat.instance)
      (λ pool same. same ∙ sym next_handle.0) pools are.pools

  -- and it has all replies
  pub stand_replied : HasAllReplies thread_handle.seat
  stand_replied = next_handle.1

  -- and once its pool was made, all that are left are of this server
  pub was_made : (after : List Pooling)
      → All (λ (pool : Pooling). pool.seen.instance ≡ thread_handle.seat.instance) after
      → AreOf o rest more after
  was_made after given =
      record {
        thread_handles = All-tail (λ (s : ThreadHandle). IsRepliedAt o s.seat) thread_handle rest are.thread_handles;
        seats = are.seats;
        pools = All-weaker (λ (pool : Pooling). pool.seen.instance ≡ thread_handle.seat.instance)
            (λ (pool : Pooling). pool.seen.instance ≡ o) (λ pool same. same ∙ next_handle.0) after given;
      }

-- all thread handles have their pools: what is left are seats
pub all_made : (o : Instance) (left : List ThreadHandle) (more rest : List SeatState) (pools : List Pooling)
    → AreOf o left more pools → rest ≡ more → AreOf o [] rest pools
all_made o left more rest pools are same =
    record {
      thread_handles = All-nil (λ (s : ThreadHandle). IsRepliedAt o s.seat);
      seats = subst (All (IsRepliedAt o)) (sym same) are.seats;
      pools = are.pools;
    }

module _ (o : Instance) (seat : SeatState) (rest : List SeatState) (pools : List Pooling)
    (are : AreOf o [] (seat ∷ rest) pools) where
  -- the next seat is of this server
  next_seat : IsRepliedAt o seat
  next_seat = All-head (IsRepliedAt o) seat rest are.seats

  -- the pools are of the next seat's server
  pub may_be_given : All (λ (pool : Pooling). pool.seen.instance ≡ seat.instance) pools
  may_be_given =
      All-weaker (λ (pool : Pooling). pool.seen.instance ≡ o) (λ (pool : Pooling). pool.seen.instance ≡ seat.instance)
      (λ pool same. same ∙ sym next_seat.0) pools are.pools

  -- and it has all replies
  pub seat_replied : HasAllReplies seat
  seat_replied = next_seat.1

  -- and once it was given, all that are left are of this server
  pub was_given : (after : List Pooling) → All (λ (pool : Pooling). pool.seen.instance ≡ seat.instance) after
      → AreOf o [] rest after
  was_given after given =
      record {
        thread_handles = are.thread_handles;
        seats = All-tail (IsRepliedAt o) seat rest are.seats;
        pools = All-weaker (λ (pool : Pooling). pool.seen.instance ≡ seat.instance)
            (λ (pool : Pooling). pool.seen.instance ≡ o) (λ pool same. same ∙ next_seat.0) after given;
      }

-- one thread handle has become a pool, with its sender
pub next_sender : (thread_handle : ThreadHandle) (rest : List ThreadHandle) (pools after : List Pooling)
    (left all : List ThreadHandle)
    → left ≡ thread_handle ∷ rest
    → pools_senders after ≡ pools_senders pools ++ thread_handle.call_sender ∷ []
    → pools_senders pools ++ handles_senders left ≡ handles_senders all
    → pools_senders after ++ handles_senders rest ≡ handles_senders all
next_sender thread_handle rest pools after left all next made are =
    ap (λ (ss : List CallSenderState). ss ++ handles_senders rest) made
    ∙ (append_assoc (pools_senders pools) (thread_handle.call_sender ∷ []) (handles_senders rest)
    ∙ (ap (λ (l : List ThreadHandle). pools_senders pools ++ handles_senders l) (sym next) ∙ are))

-- each thread handle has
pub none_left : (pools : List Pooling) (left all : List ThreadHandle) → length left ≡ 0
    → pools_senders pools ++ handles_senders left ≡ handles_senders all
    → pools_senders pools ≡ handles_senders all
none_left pools [] all none are = sym (append-nil (pools_senders pools)) ∙ are
none_left pools (thread_handle ∷ left) all none are = absurd (omega (arith, none))
