-- What masters do for a server, as their server records have it: where the beats that it takes come from.
use Rattle.std.specs.Prelude.{◌≡◌, ℕ, ◌≤◌, true, List, ◌∷◌, ◌++◌, Some}
use Rattle.leases.specs.declared.orders.Order.{Order}
use Rattle.leases.specs.declared.orders.Order.TheVariants as orders
use Rattle.leases.specs.declared.watches.WatchDue.TheVariants.{Beat}
use Rattle.leases.specs.Clocks.{Clock}
use Rattle.leases.specs.Leases.{Pair, Notice}
use Rattle.leases.specs.Sets.{has}
use Rattle.leases.specs.ServerRecords.{ServerRecordState, begun, Call, calls, watch_due_of, HasReported, HasKnown}
use Rattle.leases.specs.Runs.{TimedOrder, At, lease_after}

-- Once it had heard the first of these, the server knew another one to be gone, and had learned it while its lease
-- held: so it told a master.
pub record HasToldOf (clock : Clock) (term other : ℕ) (timed_orders : List TimedOrder) : Type 0 where
  pub front : List TimedOrder
  pub back : List TimedOrder
  pub whole : timed_orders ≡ front ++ back
  pub named : has (lease_after clock term front).known other ≡ true

-- A beat that the watched server of a pair took, once it had heard these: the server record of a master had it sent.
pub record IsSent (pair : Pair) (term other : ℕ) (notice : Notice) (before : List TimedOrder) (taken epoch stamp : ℕ)
    : Type 0 where
  -- what the server record was told and asked in the epoch, and what it found due at the end
  pub server_record : ServerRecordState
  pub all : List Call
  pub now : ℕ
  pub says : watch_due_of (calls (begun server_record epoch) all) now ≡ Beat (Some stamp)
  pub chain : has server_record.others other ≡ true
  -- the stamp is what the server's clock showed for an answer, which the master heard then,
  pub stamped : ℕ
  pub heard : ℕ
  pub shown : pair.clock stamped ≡ stamp
  pub order : stamped ≤ heard
  pub late : heard ≤ taken
  -- and if it is the master of the notice, not after the last answer that counted.
  pub last : epoch ≡ notice.epoch → heard ≤ notice.heard
  -- If the other server told that it is in the epoch, and didn't know that this one is gone, then so it was.
  pub entered : HasReported server_record.own epoch all other → (x : ℕ) × ((pair.other x ≡ epoch) × (x ≤ notice.told))
  -- If this one told that it knew the other one to be gone, then it did so before it took the beat.
  pub known : HasKnown server_record.id all other → HasToldOf pair.clock term other before

-- What the watched server heard, of masters that do what their server records have due.
pub record IsServed (pair : Pair) (term other : ℕ) (notice : Notice) (timed_orders : List TimedOrder) : Type 0 where
  -- when it takes a beat it is in the epoch that it entered last,
  pub epoch : (before after : List TimedOrder) (x epoch stamp gone : ℕ)
      → timed_orders ≡ before ++ At x (orders.Beat epoch (Some stamp)) gone ∷ after
      → pair.epoch x ≡ (lease_after pair.clock term before).epoch
  -- each beat of that epoch was sent by a server record,
  pub sent : (before after : List TimedOrder) (x epoch stamp gone : ℕ)
      → timed_orders ≡ before ++ At x (orders.Beat epoch (Some stamp)) gone ∷ after
      → pair.epoch x ≡ epoch
      → IsSent pair term other notice before x epoch stamp
  -- and if it knew the other server to be gone, that one had ended.
  pub gone : (before after : List TimedOrder) (x gone : ℕ) (order : Order)
      → timed_orders ≡ before ++ At x order gone ∷ after
      → has gone other ≡ true
      → pair.end ≤ x
