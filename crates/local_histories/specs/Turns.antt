-- The turns of a worker, cut into instants between which other events may stand.
use Rattle.std.specs.Prelude.{◌≡◌, ◌⊎◌, ℕ, Bool, List, [], ◌∷◌, ◌++◌, if◌then◌else◌, true}
use Rattle.std.specs.declared.result.Result.{Result}
use Rattle.rail.specs.declared.faults.RailFault.{RailFault}
use Rattle.rail.specs.declared.workers.Turn.{Turn}
use Rattle.rail.specs.Workers.{IsTurn}
use Rattle.local_histories.specs.Events.{Event, Taken, Shown, Put, Answered, HandedBack}
use Rattle.local_histories.specs.Events.{Halted, Broke, is_of_worker}
use Rattle.local_histories.specs.Objects.{OpenedChain, worker_after, links_after}

-- those of these events that pass a test, in order
abbrev pub those : (Event → Bool) → List Event → List Event
those test [] = []
those test (e ∷ es) = if test e then e ∷ those test es else those test es

-- the events of the worker of server i and of its links
abbrev pub of_worker : ℕ → List Event → List Event
of_worker i es = those (is_of_worker i) es

-- After the face is shown, messages are put, links fail, replies are put or handed back; and it may end in a halt.
-- `rail`, `Links::put`: the condition `published`, without which nothing is put; and `put_replies`, `step`.
abbrev pub AreOutputs : List Event → Type 0
AreOutputs [] = Unit {0}
AreOutputs (Put i j peer ∷ es) = AreOutputs es
AreOutputs (Broke i j ∷ es) = AreOutputs es
AreOutputs (Answered i reply ∷ es) = AreOutputs es
AreOutputs (HandedBack i port ∷ es) = AreOutputs es
AreOutputs (Halted i ∷ es) = es ≡ []
AreOutputs (e ∷ es) = ⊥

-- After a message is taken, the face is shown and what its step puts out follows; or the server halts; or nothing.
abbrev pub FollowTaking : List Event → Type 0
FollowTaking [] = Unit {0}
FollowTaking (Shown i input ∷ es) = AreOutputs es
FollowTaking (Halted i ∷ es) = es ≡ []
FollowTaking (e ∷ es) = ⊥

-- The events of a turn come in this order: first a message is taken; or nothing is, and the server halts.
abbrev pub AreInOrder : List Event → Type 0
AreInOrder (Taken i envelope ∷ es) = FollowTaking es
AreInOrder (Halted i ∷ es) = es ≡ []
AreInOrder es = ⊥

-- all of these are events of the worker of server i and of its links
abbrev pub AreOwn : ℕ → List Event → Type 0
AreOwn i [] = Unit {0}
AreOwn i (e ∷ es) = (is_of_worker i e ≡ true) × AreOwn i es

-- After these events of server i, those are one whole turn of its worker: they come in order, and what they make of the
-- worker and of its links is what the contract of a turn says, with some answer. `rail`, `Worker::turn`: `turn`.
pub record IsTurnAfter (s : OpenedChain) (i : ℕ) (before turn : List Event) : Type 0 where
  pub own : AreOwn i turn
  pub in_order : AreInOrder turn
  pub result : Result Turn RailFault
  pub is : IsTurn (worker_after s i before) (worker_after s i (before ++ turn)) (links_after i before)
      (links_after i (before ++ turn)) result

-- or a link fails between two turns
abbrev pub IsBreak : ℕ → List Event → Type 0
IsBreak i es = (j : ℕ) × (es ≡ Broke i j ∷ [])

-- the events of a worker, after those before, are these turns, one after another, with failures of links between them
abbrev pub AreTurns : OpenedChain → ℕ → List Event → List (List Event) → Type 0
AreTurns s i before [] = Unit {0}
AreTurns s i before (turn ∷ turns) =
    (IsTurnAfter s i before turn ⊎ IsBreak i turn) × AreTurns s i (before ++ turn) turns

-- these lists, one after another
abbrev pub joined : List (List Event) → List Event
joined [] = []
joined (es ∷ rest) = es ++ joined rest

-- these events begin a turn: with some others after them they are one; or there are none
abbrev pub IsBegunAfter : OpenedChain → ℕ → List Event → List Event → Type 0
IsBegunAfter s i before es = (es ≡ []) ⊎ ((rest : List Event) × IsTurnAfter s i before (es ++ rest))

-- no more events of server i, or the process of i ends
abbrev pub MayEnd : ℕ → List Event → Type 0
MayEnd i es = (es ≡ []) ⊎ (es ≡ Halted i ∷ [])

-- The events of the worker of server i are whole turns, and then perhaps a turn that isn't over; or that never will be,
-- since the process ends in it.
pub record HasTurns (s : OpenedChain) (i : ℕ) (events : List Event) : Type 0 where
  pub turns : List (List Event)
  pub last : List Event
  pub ended : List Event
  pub all : of_worker i events ≡ joined turns ++ (last ++ ended)
  pub are : AreTurns s i [] turns
  pub begun : IsBegunAfter s i (joined turns) last
  pub may : MayEnd i ended
