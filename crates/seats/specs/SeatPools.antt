-- The seats of one thread at one server.
use Rattle.std.specs.Prelude.{◌≡◌, ◌≤◌, ◌<◌, ◌+◌, ℕ, suc, List, [], ◌∷◌, ◌++◌, Option, None, All, length}
use Rattle.faces.specs.Histories.{History, Instance}
use Rattle.faces.specs.Readers.{Looking}
use Rattle.table.specs.declared.operations.Call.{Call}
use Rattle.rail.specs.CallSenders.{CallSenderState, with_call}
use Rattle.seats.specs.Submitters.{Submitting}

-- What a pool's reader has seen or was told of, and each history whose face stood when it looked; the sender of its
-- calls; its seats at which no call is open, the next one last; those for whose replies nobody waits any more; how many
-- it has, with those that were taken out; how many bytes the items of its server may take, if there is a limit; and how
-- often a call found that its server is marked, gone or stopped, or gave no reply that fits it.
pub record Pooling : Type 0 where
  pub seen : History
  pub looks : List History
  pub sender : CallSenderState
  pub free : List Submitting
  pub left : List Submitting
  pub seats : ℕ
  pub limit : Option ℕ
  pub faults : ℕ

-- a pool without seats
abbrev pub without_seats : Looking → CallSenderState → Option ℕ → Pooling
without_seats reader sender limit =
    record {
      seen = reader.seen;
      looks = reader.looks;
      sender = sender;
      free = [];
      left = [];
      seats = 0;
      limit = limit;
      faults = 0;
    }

-- it has one seat more, which is free
abbrev pub with_free : Pooling → Submitting → Pooling
with_free p s = record p { free = p.free ++ s ∷ []; seats = suc p.seats }

-- a seat that was out is free
abbrev pub put_back : Pooling → Submitting → Pooling
put_back p s = record p { free = p.free ++ s ∷ [] }

-- a seat that was out has an open call, for whose reply nobody waits any more
abbrev pub put_left : Pooling → Submitting → Pooling
put_left p s = record p { left = p.left ++ s ∷ [] }

-- its sender sent one call more, from this port
abbrev pub with_sent_call : Pooling → ℕ → Call → Pooling
with_sent_call p port call = record p { sender = with_call p.sender port call }

-- one call more got no reply
abbrev pub with_fault : Pooling → Pooling
with_fault p = record p { faults = p.faults + 1 }

-- how many of its seats are here
abbrev pub here : Pooling → ℕ
here p = length p.free + length p.left

-- a seat of it is out
abbrev pub IsOneOut : Pooling → Type 0
IsOneOut p = here p < p.seats

-- It has as many seats as before, as many of them are here, and those that were free still are.
pub record HasAllSeats (before after : Pooling) : Type 0 where
  pub more : List Submitting
  pub seats : after.seats ≡ before.seats
  pub count : here after ≡ here before
  pub free : after.free ≡ before.free ++ more

-- the reader is as it was
abbrev pub HasSameReader : Pooling → Pooling → Type 0
HasSameReader p q = (q.seen ≡ p.seen) × (q.looks ≡ p.looks)

-- its sender has sent nothing more
abbrev pub HasSentNothing : Pooling → Pooling → Type 0
HasSentNothing p q = q.sender ≡ p.sender

-- no call more got no reply
abbrev pub HasNoFault : Pooling → Pooling → Type 0
HasNoFault p q = q.faults ≡ p.faults

-- one call more got no reply
abbrev pub HasOneFault : Pooling → Pooling → Type 0
HasOneFault p q = q.faults ≡ p.faults + 1

-- its server's items may take as much as before
abbrev pub HasSameLimit : Pooling → Pooling → Type 0
HasSameLimit p q = q.limit ≡ p.limit

-- the seats are those that it had
abbrev pub HasSameSeats : Pooling → Pooling → Type 0
HasSameSeats p q = (q.free ≡ p.free) × (q.left ≡ p.left) × (q.seats ≡ p.seats)

-- a seat of this server
abbrev pub IsAt : Instance → Submitting → Type 0
IsAt instance s = s.seat.instance ≡ instance

-- a seat of this server at which no call is open
abbrev pub IsFreeAt : Instance → Submitting → Type 0
IsFreeAt instance s = (s.seat.instance ≡ instance) × (s.waiting ≡ None)

-- What a pool of n seats holds: its sender, those that are free, and those that were left, are of this server, and the
-- seats no more than it has. There is room for each seat among either.
pub record IsPool (instance : Instance) (sender : CallSenderState) (seats : ℕ) (free left : List Submitting)
    (room space : ℕ)
    : Type 0 where
  pub sends : sender.instance ≡ instance
  pub are_free : All (IsFreeAt instance) free
  pub are_left : All (IsAt instance) left
  pub count : length free + length left ≤ seats
  pub frees : seats ≤ room
  pub leaves : seats ≤ space
