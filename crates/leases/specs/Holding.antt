-- The server's side: which epoch it is in, until when its lease runs, and what it does with what masters send.
use Rattle.std.specs.Prelude.{◌≡◌, ℕ, ◌+◌, ◌-◌, ◌^◌, ◌≤◌, ◌<◌, max, min, bit_or, Bool, true, ◌&&◌, nat_eq, nat_le}
use Rattle.std.specs.Prelude.{nat_lt, List, [], ◌∷◌, ◌++◌, Option, None, Some, if◌then◌else◌}
use Rattle.leases.specs.declared.orders.Order.{Order}
use Rattle.leases.specs.declared.orders.Order.TheVariants.{Reign, Beat, Silent, Gone}
use Rattle.leases.specs.declared.orders.Report.{Report}
use Rattle.leases.specs.declared.orders.Answer.{Answer}
use Rattle.leases.specs.declared.orders.Answer.TheVariants.{Tells, Notes}
use Rattle.leases.specs.Sets.{has}

-- What a server knows of its lease. Times are what its clock shows.
pub record LeaseState : Type 0 where
  -- the term that was asked for, or none
  pub term : Option ℕ
  -- the epoch that it is in; 0 before the first
  pub epoch : ℕ
  -- when the lease ends; without a term, the latest stamp that a beat brought back
  pub end : ℕ
  -- the servers that it knew to be gone while it held, server i being the bit of value 2^i
  pub known : ℕ

-- the server has just started
abbrev pub unheld : Option ℕ → LeaseState
unheld term = record { term = term; epoch = 0; end = 0; known = 0 }

-- a lease without a term always holds
abbrev pub holds_until : Option ℕ → ℕ → ℕ → Bool
holds_until None end now = true
holds_until (Some term) end now = nat_lt now end

-- the lease holds when the clock shows this
abbrev pub holds : LeaseState → ℕ → Bool
holds lease now = holds_until lease.term lease.end now

-- while it holds, it learns who is gone
abbrev pub learned : LeaseState → ℕ → ℕ → LeaseState
learned lease gone now = if holds lease now then record lease { known = bit_or lease.known gone } else lease

-- it has entered an epoch, unless it is in a later one
abbrev pub entered : LeaseState → ℕ → LeaseState
entered lease epoch = record lease { epoch = max lease.epoch epoch }

-- when a lease ends that runs from this stamp on; a clock shows numbers below 2^64
abbrev pub end_from : Option ℕ → ℕ → ℕ
end_from None stamp = stamp
end_from (Some term) stamp = min (stamp + term) (2 ^ 64 - 1)

-- it runs its term from a stamp on, if that is longer
abbrev pub prolonged : LeaseState → ℕ → LeaseState
prolonged lease stamp = record lease { end = max lease.end (end_from lease.term stamp) }

-- a beat is taken if it is of the server's epoch, and its stamp is no later than what the clock shows
abbrev pub beaten : LeaseState → ℕ → ℕ → ℕ → LeaseState
beaten lease epoch stamp now =
    if nat_eq epoch lease.epoch && nat_le stamp now then prolonged lease stamp else lease

-- a beat without a stamp prolongs nothing
abbrev pub beaten_by : LeaseState → ℕ → Option ℕ → ℕ → LeaseState
beaten_by lease epoch None now = lease
beaten_by lease epoch (Some stamp) now = beaten lease epoch stamp now

-- what an order does to epoch and end
abbrev pub obeyed : LeaseState → Order → ℕ → LeaseState
obeyed lease (Reign epoch) now = entered lease epoch
obeyed lease (Beat epoch stamp) now = beaten_by lease epoch stamp now
obeyed lease (Silent epoch id) now = lease
obeyed lease (Gone id) now = lease

-- what an order does, while the server knows these to be gone
abbrev pub heeded : LeaseState → Order → ℕ → ℕ → LeaseState
heeded lease order gone now = learned (obeyed lease order now) gone now

-- the server of which an order tells, if this is a notice to be taken: one of silence must be of the server's own epoch
abbrev pub noticed : LeaseState → Order → Option ℕ
noticed lease (Reign epoch) = None
noticed lease (Beat epoch stamp) = None
noticed lease (Silent epoch id) = if nat_eq epoch lease.epoch then Some id else None
noticed lease (Gone id) = Some id

-- how the server is
abbrev pub report_of : LeaseState → ℕ → ℕ → Report
report_of lease gone now = record {
  epoch = lease.epoch;
  stamp = now;
  end = lease.end;
  term = lease.term;
  gone = gone;
  known = lease.known;
}

abbrev pub answer_with : Option ℕ → Report → Answer
answer_with None report = Tells report
answer_with (Some id) report = Notes id

-- a notice is noted; else the server tells how it is then
abbrev pub answer_to : LeaseState → Order → ℕ → ℕ → Answer
answer_to lease order gone now = answer_with (noticed lease order) (report_of (heeded lease order gone now) gone now)

-- What a server hears: an order, while it knows these to be gone and the clock shows this.
pub data Hearing : Type 0 where
  Hears : Order → ℕ → ℕ → Hearing

-- what one of them does
abbrev pub hear : LeaseState → Hearing → LeaseState
hear lease (Hears order gone now) = heeded lease order gone now

-- what all of them do, in order
abbrev pub hears : LeaseState → List Hearing → LeaseState
hears lease [] = lease
hears lease (x ∷ xs) = hears (hear lease x) xs

-- A beat by which the lease holds: it is one of those that were heard, of the epoch that the server was in, with a
-- stamp that the clock had shown, and less than the term has passed since.
pub record IsHeldBy (lease : LeaseState) (term : ℕ) (hearings : List Hearing) (now : ℕ) : Type 0 where
  pub before : List Hearing
  pub after : List Hearing
  pub epoch : ℕ
  pub stamp : ℕ
  pub gone : ℕ
  pub read : ℕ
  pub came : hearings ≡ before ++ Hears (Beat epoch (Some stamp)) gone read ∷ after
  pub own : (hears lease before).epoch ≡ epoch
  pub shown : stamp ≤ read
  pub held : now < stamp + term

-- When a server learned that another is gone: it knew that as it heard an order, and then its lease held.
pub record IsLearnedBy (lease : LeaseState) (hearings : List Hearing) (id : ℕ) : Type 0 where
  pub before : List Hearing
  pub after : List Hearing
  pub order : Order
  pub gone : ℕ
  pub read : ℕ
  pub came : hearings ≡ before ++ Hears order gone read ∷ after
  pub named : has gone id ≡ true
  pub held : holds (obeyed (hears lease before) order read) read ≡ true
