-- A generation of a chain whose members may be sealed: updates that threads send to their servers, and that servers
-- pass on to one another, over links in order; markers behind them; and reports (this project's model). Of the chain's
-- own rules two stand in it (`IsMoved`, `Sends`). They are premises on whoever wires this: a server sends a message of
-- an update only while it is active, and once it was active it isn't any more only when it is further than it was. Who
-- has ended does nothing more: so nothing is said of it.
use Rattle.std.specs.Prelude.{◌≡◌, ℕ, nat_eq, ◌+◌, ◌≤◌, ◌<◌, ◌⊎◌, Bool, true, false, List, [], ◌∷◌, ◌++◌, Some}
use Rattle.leases.specs.Sets.{has}
use Rattle.successions.specs.declared.orders.Phase.{Phase}
use Rattle.successions.specs.declared.orders.Standing.{Standing}
use Rattle.successions.specs.Decisions.{is_member}
use Rattle.successions.specs.Lists.{Among, with_at}
use Rattle.seals.specs.declared.markers.Numbers.{Numbers}
use Rattle.seals.specs.declared.markers.Table.{Table}
use Rattle.seals.specs.declared.markers.Marker.{Marker}
use Rattle.seals.specs.Seals.{SealState, serving, begins, is_in, followed, passed_by, marked_by, marker_of}
use Rattle.seals.specs.Seals.{standing_of}

-- how far these numbers are: the more of them, the further
abbrev pub reach : Numbers → ℕ
reach n = n.view + (n.last + n.committed)

-- What a thread sends to its own server.
pub data Sending : Type 0 where
  -- an update that it began
  Begun : Sending
  -- its marker of the seal of this epoch
  Passed : (epoch : ℕ) → Sending

-- What stands on a link.
pub data Item : Type 0 where
  -- A message by which an update moves, with how far its sender was when it last wasn't active. Nobody reads that
  -- number: it is for proofs.
  Update : (rested : ℕ) → Item
  -- a marker
  Mark : (marker : Marker) → Item

-- How a member's server is.
pub record Work : Type 0 where
  pub table : Table
  -- it has begun or passed on an update, and may have something to send of it; so its table is busy
  pub active : Bool
  -- how far it was when it last wasn't
  pub rested : ℕ

-- What a thread has seen of its member's seal: whether it begins updates, and the epoch.
pub record Flag : Type 0 where
  pub begins : Bool
  pub epoch : ℕ

-- A report, the member that sent it, and the epoch of the seal in which that was.
pub record Sent : Type 0 where
  pub from : ℕ
  pub epoch : ℕ
  pub standing : Standing

-- A generation, by its members' ids and the numbers of their threads.
pub record Run : Type 0 where
  pub seals : ℕ → SealState
  pub works : ℕ → Work
  pub flags : ℕ → ℕ → Flag
  -- what each thread has sent that its server hasn't taken, the oldest first
  pub inlets : ℕ → ℕ → List Sending
  -- what is on its way from one member to another one, the oldest first
  pub links : ℕ → ℕ → List Item
  -- all reports that were ever sent
  pub reports : List Sent

-- each member begins updates, and nothing has happened
abbrev pub begun : ℕ → ℕ → ℕ → Run
begun members generation threads = record {
  seals = λ i. serving generation i members threads;
  works = λ i. record {
    table = record { numbers = record { view = 0; last = 0; committed = 0 }; busy = false };
    active = false;
    rested = 0;
  };
  flags = λ i thread. record { begins = true; epoch = 0 };
  inlets = λ i thread. [];
  links = λ i j. [];
  reports = [];
}

-- the function is changed at two places, one after the other
abbrev pub with_both : {X : Type 0} → (ℕ → ℕ → X) → ℕ → ℕ → X → ℕ → ℕ → X
with_both f i j x = with_at f i (with_at (f i) j x)

-- it isn't active, and is as far as it was then: it may have read
pub record IsUnmoved (old new : Work) : Type 0 where
  pub before : old.active ≡ false
  pub numbers : new.table.numbers ≡ old.table.numbers
  pub rested : new.rested ≡ old.rested

-- it isn't active any more, and is further than when it last wasn't
pub record IsFurther (old new : Work) : Type 0 where
  pub further : old.rested < reach new.table.numbers
  pub rested : new.rested ≡ reach new.table.numbers

-- What may become of a server as it takes something, or goes on with an update. Its numbers never go back, and if it
-- isn't active then, it is as it was, or further.
pub record IsMoved (old new : Work) : Type 0 where
  pub view : old.table.numbers.view ≤ new.table.numbers.view
  pub last : old.table.numbers.last ≤ new.table.numbers.last
  pub committed : old.table.numbers.committed ≤ new.table.numbers.committed
  pub busy : new.table.busy ≡ false → new.active ≡ false
  pub goes_on : new.active ≡ true → new.rested ≡ old.rested
  pub rests : new.active ≡ false → IsUnmoved old new ⊎ IsFurther old new

-- What may happen next, and what it leads to.
pub data May (members threads : ℕ) (w : Run) : Run → Type 0 where
  -- a member is told of its phase: it is sealed, or isn't any more
  Follows : (i : ℕ) (phase : Phase)
      → May members threads w (record w { seals = with_at w.seals i (followed (w.seals i) phase) })
  -- a thread sees how its member's seal is
  Sees : (i thread : ℕ)
      → May members threads w (record w {
        flags = with_both w.flags i thread
            (record { begins = begins (w.seals i).hold; epoch = (w.seals i).epoch });
      })
  -- a thread begins an update
  Begins : (i thread : ℕ) → thread < threads → (w.flags i thread).begins ≡ true
      → May members threads w (record w { inlets = with_both w.inlets i thread (w.inlets i thread ++ Begun ∷ []) })
  -- a thread that begins none sends its marker
  Holds : (i thread : ℕ) → (w.flags i thread).begins ≡ false
      → May members threads w (record w {
        inlets = with_both w.inlets i thread (w.inlets i thread ++ Passed (w.flags i thread).epoch ∷ []);
      })
  -- a server takes an update of its own clients
  Takes : (i thread : ℕ) (rest : List Sending) (work : Work) → w.inlets i thread ≡ Begun ∷ rest
      → IsMoved (w.works i) work
      → May members threads w (record w { works = with_at w.works i work; inlets = with_both w.inlets i thread rest })
  -- a server takes the marker of a thread
  Passes : (i thread epoch : ℕ) (rest : List Sending) → w.inlets i thread ≡ Passed epoch ∷ rest
      → May members threads w (record w {
        seals = with_at w.seals i (passed_by (w.seals i) thread epoch);
        inlets = with_both w.inlets i thread rest;
      })
  -- a server goes on with an update
  Works : (i : ℕ) (work : Work) → (w.works i).active ≡ true → IsMoved (w.works i) work
      → May members threads w (record w { works = with_at w.works i work })
  -- a server asks the tail for a read, or has its answer
  Reads : (i : ℕ) (busy : Bool) → (w.works i).active ≡ false
      → May members threads w (record w {
        works = with_at w.works i (record (w.works i) { table = record (w.works i).table { busy = busy } });
      })
  -- a member's server that is active sends another one a message of an update
  Sends : (i j : ℕ) → is_member members i ≡ true → nat_eq i j ≡ false → (w.works i).active ≡ true
      → May members threads w (record w {
        links = with_both w.links i j (w.links i j ++ Update (w.works i).rested ∷ []);
      })
  -- a server takes such a message from a member that isn't gone by its view
  Hears : (i j rested : ℕ) (rest : List Item) (work : Work) → w.links i j ≡ Update rested ∷ rest
      → has (w.works j).table.numbers.view i ≡ false → IsMoved (w.works j) work
      → May members threads w (record w { works = with_at w.works j work; links = with_both w.links i j rest })
  -- whatever comes from a member that is gone by its view does nothing
  Drops : (i j : ℕ) (item : Item) (rest : List Item) → w.links i j ≡ item ∷ rest
      → has (w.works j).table.numbers.view i ≡ true
      → May members threads w (record w { links = with_both w.links i j rest })
  -- a server learns that more members are gone
  Learns : (i : ℕ) (work : Work) → (w.works i).table.numbers.view < work.table.numbers.view
      → IsMoved (w.works i) work
      → May members threads w (record w { works = with_at w.works i work })
  -- a member sends a peer its marker
  Marks : (i j : ℕ) (marker : Marker) → marker_of (w.seals i) (w.works i).table ≡ Some marker
      → May members threads w (record w { links = with_both w.links i j (w.links i j ++ Mark marker ∷ []) })
  -- a member takes a marker from a peer that isn't gone by its view
  Reaches : (i j : ℕ) (marker : Marker) (rest : List Item) → w.links i j ≡ Mark marker ∷ rest
      → has (w.works j).table.numbers.view i ≡ false
      → May members threads w (record w {
        seals = with_at w.seals j (marked_by (w.seals j) i marker);
        links = with_both w.links i j rest;
      })
  -- a member reports
  Reports : (i : ℕ)
      → May members threads w (record w {
        reports = record {
          from = i;
          epoch = (w.seals i).epoch;
          standing = standing_of (w.seals i) (w.works i).table;
        } ∷ w.reports;
      })

-- What may come of a generation.
pub data IsReached (members generation threads : ℕ) : Run → Type 0 where
  At_first : IsReached members generation threads (begun members generation threads)
  Goes_on : (w next : Run) → IsReached members generation threads w → May members threads w next
      → IsReached members generation threads next

-- a member that isn't left out by this view
abbrev pub counts : ℕ → ℕ → ℕ → Type 0
counts members view i = (is_member members i ≡ true) × (has view i ≡ false)

-- A member has reported that it is idle with these numbers, in the seal of this epoch.
pub record HasReported (w : Run) (epoch : ℕ) (numbers : Numbers) (i : ℕ) : Type 0 where
  pub sent : Sent
  pub among : Among sent w.reports
  pub from : sent.from ≡ i
  pub epoch_is : sent.epoch ≡ epoch
  pub standing : sent.standing ≡
      record { view = numbers.view; last = numbers.last; committed = numbers.committed; idle = true }

-- Each member that isn't left out has reported so, is in that seal still, and knows of nobody more who is gone.
pub record AreIdle (members : ℕ) (w : Run) (epoch : ℕ) (numbers : Numbers) : Type 0 where
  pub reported : (i : ℕ) → counts members numbers.view i → HasReported w epoch numbers i
  pub sealed : (i : ℕ) → counts members numbers.view i → is_in (w.seals i) epoch ≡ true
  pub view : (i : ℕ) → counts members numbers.view i → (w.works i).table.numbers.view ≡ numbers.view

-- no update that a thread began is on its way to its server
abbrev pub has_begun : List Sending → Bool
has_begun [] = false
has_begun (Begun ∷ rest) = true
has_begun (Passed epoch ∷ rest) = has_begun rest

-- a message of an update is on a link
abbrev pub has_update : List Item → Bool
has_update [] = false
has_update (Update rested ∷ rest) = true
has_update (Mark marker ∷ rest) = has_update rest

-- Members that aren't left out begin no update, and know of nobody more who is gone.
pub record AreHeld (members view : ℕ) (w : Run) : Type 0 where
  pub held : (i : ℕ) → counts members view i → begins (w.seals i).hold ≡ false
  pub same : (i : ℕ) → counts members view i → (w.works i).table.numbers.view ≡ view

-- These members are quiet.
pub record AreQuiet (members threads : ℕ) (numbers : Numbers) (w : Run) : Type 0 where
  -- they begin no update, nor do their threads
  pub held : (i : ℕ) → counts members numbers.view i → begins (w.seals i).hold ≡ false
  pub flags : (i thread : ℕ) → counts members numbers.view i → thread < threads → (w.flags i thread).begins ≡ false
  -- none is on its way from a thread to its server, or from one of them to another, or from who is no member
  pub inlets : (i thread : ℕ) → counts members numbers.view i → has_begun (w.inlets i thread) ≡ false
  pub links : (i j : ℕ) → has numbers.view i ≡ false → counts members numbers.view j
      → has_update (w.links i j) ≡ false
  -- they have just these numbers, and no update in work
  pub tables : (i : ℕ) → counts members numbers.view i → (w.works i).table.numbers ≡ numbers
  pub resting : (i : ℕ) → counts members numbers.view i → (w.works i).active ≡ false
