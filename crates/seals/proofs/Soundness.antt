-- What holds of a generation at any time.
use Rattle.std.proofs.Common.{◌≡◌, ℕ, suc, ◌<◌, ◌≤◌, Bool, true, false, nat_eq, List, [], ◌∷◌, Some}
use Rattle.leases.specs.Sets.{has}
use Rattle.successions.specs.declared.orders.Standing.{Standing}
use Rattle.successions.specs.Decisions.{is_member}
use Rattle.successions.specs.Lists.{Among}
use Rattle.seals.specs.declared.markers.Numbers.{Numbers}
use Rattle.seals.specs.Seals.{SealState, is_fenced, is_in, has_passed, mark_at}
use Rattle.seals.specs.Runs.{reach, Sending, Begun, Passed, Item, Update, Mark, Work, Flag, Sent, Run, has_begun}

-- ---- what stands on links and in inlets

-- each message of an update is so, by how far its sender had come
abbrev pub Updates : (ℕ → Type 0) → List Item → Type 0
Updates P [] = Unit {0}
Updates P (Update rested ∷ rest) = P rested × Updates P rest
Updates P (Mark marker ∷ rest) = Updates P rest

-- no marker says more than this
abbrev pub Marked : ℕ → List Item → Type 0
Marked most [] = Unit {0}
Marked most (Update rested ∷ rest) = Marked most rest
Marked most (Mark marker ∷ rest) = (reach marker.numbers ≤ most) × Marked most rest

-- behind a marker are only messages of a sender that had come as far
abbrev pub Ordered : List Item → Type 0
Ordered [] = Unit {0}
Ordered (Update rested ∷ rest) = Ordered rest
Ordered (Mark marker ∷ rest) = Updates (λ n. reach marker.numbers ≤ n) rest × Ordered rest

-- no thread's marker is of a later epoch
abbrev pub Holding : ℕ → List Sending → Type 0
Holding most [] = Unit {0}
Holding most (Begun ∷ rest) = Holding most rest
Holding most (Passed epoch ∷ rest) = (epoch ≤ most) × Holding most rest

-- behind a thread's marker of this epoch is no update
abbrev pub Behind : ℕ → List Sending → Type 0
Behind epoch [] = Unit {0}
Behind epoch (Begun ∷ rest) = Behind epoch rest
Behind epoch (Passed other ∷ rest) = (other ≡ epoch → has_begun rest ≡ false) × Behind epoch rest

-- ---- members

-- it sends messages of updates with less than this
abbrev pub limit_of : Bool → ℕ → ℕ
limit_of true rested = suc rested
limit_of false rested = rested

-- How a server is.
pub record IsSoundWork (work : Work) : Type 0 where
  pub rest : work.active ≡ false → work.rested ≡ reach work.table.numbers
  pub least : work.rested ≤ reach work.table.numbers
  pub busy : work.table.busy ≡ false → work.active ≡ false

-- Whose seal it is.
pub record IsSoundSeal (members threads i : ℕ) (seal : SealState) : Type 0 where
  pub id : seal.id ≡ i
  pub members_are : seal.members ≡ members
  pub threads_are : seal.threads ≡ threads

-- What a thread has seen, and what stands in its inlet.
pub record IsSoundThread (threads thread : ℕ) (seal : SealState) (flag : Flag) (inlet : List Sending) : Type 0 where
  pub real : has_begun inlet ≡ true → thread < threads
  pub seen : flag.epoch ≤ seal.epoch
  pub holding : Holding flag.epoch inlet
  pub holds : is_in seal flag.epoch ≡ true → flag.begins ≡ false
  pub behind : (epoch : ℕ) → is_in seal epoch ≡ true → Behind epoch inlet
  pub passed : is_fenced seal.hold ≡ true → has_passed seal.passed thread ≡ true
      → (flag.epoch ≡ seal.epoch) × (has_begun inlet ≡ false)

-- who sends a message of an update, and with which number
pub record IsSentBy (members i j : ℕ) (sender : Work) (rested : ℕ) : Type 0 where
  pub member : is_member members i ≡ true
  pub other : nat_eq i j ≡ false
  pub below : rested < limit_of sender.active sender.rested

-- What stands on a link.
pub record IsSoundLink (members i j : ℕ) (sender : Work) (receiver : SealState) (link : List Item) : Type 0 where
  pub sent : Updates (IsSentBy members i j sender) link
  pub marked : Marked sender.rested link
  pub ordered : Ordered link
  pub mark : (numbers : Numbers) → mark_at receiver.marks i ≡ Some numbers
      → Updates (λ n. reach numbers ≤ n) link × (reach numbers ≤ sender.rested)

-- the numbers that a report names
abbrev pub numbers_in : Standing → Numbers
numbers_in standing = record { view = standing.view; last = standing.last; committed = standing.committed }

-- What a report of an idle member says for good.
pub record IsSoundReport (members threads : ℕ) (seal : SealState) (work : Work) (works : ℕ → Work)
    (links : ℕ → List Item) (s : Sent) : Type 0 where
  pub rested : reach (numbers_in s.standing) ≤ work.rested
  pub view : s.standing.view ≤ work.table.numbers.view
  pub last : s.standing.last ≤ work.table.numbers.last
  pub committed : s.standing.committed ≤ work.table.numbers.committed
  pub epoch_is : s.epoch ≤ seal.epoch
  pub passed : is_in seal s.epoch ≡ true → (thread : ℕ) → thread < threads → has_passed seal.passed thread ≡ true
  pub peers : (i : ℕ) → is_member members i ≡ true → has s.standing.view i ≡ false → nat_eq i s.from ≡ false
      → Updates (λ n. reach (numbers_in s.standing) ≤ n) (links i)
      × (reach (numbers_in s.standing) ≤ (works i).rested)

pub record IsSound (members threads : ℕ) (w : Run) : Type 0 where
  pub works : (i : ℕ) → IsSoundWork (w.works i)
  pub seals : (i : ℕ) → IsSoundSeal members threads i (w.seals i)
  pub threads_are : (i thread : ℕ)
      → IsSoundThread threads thread (w.seals i) (w.flags i thread) (w.inlets i thread)
  pub links : (i j : ℕ) → IsSoundLink members i j (w.works i) (w.seals j) (w.links i j)
  pub reports : (s : Sent) → Among s w.reports → s.standing.idle ≡ true
      → IsSoundReport members threads (w.seals s.from) (w.works s.from) w.works (λ i. w.links i s.from) s
