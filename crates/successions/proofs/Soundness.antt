-- What holds of a generation and what comes of it, whatever happens.
use Rattle.std.proofs.Common.{◌≡◌, ◌≢◌, ℕ, ◌<◌, ◌≤◌, ◌⊎◌, Bool, true, false, List, Contains, Option, None, Some}
use Rattle.leases.specs.Sets.{has}
use Rattle.successions.specs.declared.members.Members.{Members}
use Rattle.successions.specs.declared.members.Acceptance.{Acceptance}
use Rattle.successions.specs.declared.orders.Phase.{Phase}
use Rattle.successions.specs.declared.orders.Phase.TheVariants.{Switched}
use Rattle.successions.specs.declared.orders.Report.{Report}
use Rattle.successions.specs.declared.orders.Order.{Order}
use Rattle.successions.specs.declared.orders.Order.TheVariants.{Seal, Resume, Poll, Switch, Open}
use Rattle.successions.specs.declared.stages.Stage.{Stage}
use Rattle.successions.specs.declared.stages.Stage.TheVariants.{Looking, Resuming, Proposing, Switching, Finishing}
use Rattle.successions.specs.Lists.{Among}
use Rattle.successions.specs.Successions.{SuccessionState, acceptance_of}
use Rattle.successions.specs.Decisions.{DecisionState, report_at, is_member, switches_to}
use Rattle.successions.specs.Lives.{Sent, Life}

-- whom a master had accepted in its own epoch
abbrev pub proposed_of : Stage → Option Members
proposed_of Looking = None
proposed_of Resuming = None
proposed_of (Proposing next) = Some next
proposed_of (Switching next count) = Some next
proposed_of (Finishing next count) = None

-- the acceptance of these in an epoch
abbrev pub accepts : ℕ → Members → Acceptance
accepts epoch next = record { epoch = epoch; next = next }

-- A member reported that it accepts these in this epoch, and knows of exactly these that they are gone.
pub record IsVote (reports : List Sent) (i r : ℕ) (next : Members) (gone : ℕ) : Type 0 where
  pub report : Report
  pub sent : Among (record { from = i; report = report }) reports
  pub epoch : report.epoch ≡ r
  pub accepted : acceptance_of report.phase ≡ Some (accepts r next)
  pub view : report.standing.view ≡ gone

-- Each member that isn't left out did, and one isn't.
pub record IsChosen (members : ℕ) (reports : List Sent) (epoch : ℕ) (next : Members) : Type 0 where
  pub gone : ℕ
  pub some : (i : ℕ) × (is_member members i ≡ true) × (has gone i ≡ false)
  pub all : (i : ℕ) → is_member members i ≡ true → has gone i ≡ false → IsVote reports i epoch next gone

-- all members are gone
abbrev pub AreGone : ℕ → (ℕ → Bool) → Type 0
AreGone members gone = (i : ℕ) → is_member members i ≡ true → gone i ≡ true

-- it is one of these processes
abbrev pub IsOne : ℕ → Members → Type 0
IsOne process next = (process ≢ 0) × Contains next.processes process

-- these processes have all ended
abbrev pub HaveEnded : (ℕ → Bool) → Members → Type 0
HaveEnded ended next = (process : ℕ) → process ≢ 0 → Contains next.processes process → ended process ≡ true

-- these are who is meant, or they have all ended
abbrev pub IsThatOrVoid : (ℕ → Bool) → Members → Members → Type 0
IsThatOrVoid ended one next = (one ≡ next) ⊎ HaveEnded ended next

-- something was accepted in this epoch or later
pub record IsAcceptedSince (epoch : ℕ) (phase : Phase) : Type 0 where
  pub acceptance : Acceptance
  pub is : acceptance_of phase ≡ Some acceptance
  pub since : epoch ≤ acceptance.epoch

-- it was accepted since, or a later epoch had the member go on
abbrev pub Keeps : ℕ → SuccessionState → Type 0
Keeps epoch m = IsAcceptedSince epoch m.phase ⊎ (epoch < m.resumed)

-- What a member knows, beside the masters.
pub record IsSoundMember (masters : ℕ → DecisionState) (m : SuccessionState) : Type 0 where
  pub entered : (a : Acceptance) → acceptance_of m.phase ≡ Some a → a.epoch ≤ m.epoch
  pub proposed : (a : Acceptance) → acceptance_of m.phase ≡ Some a → proposed_of (masters a.epoch).stage ≡ Some a.next
  pub switched : (a : Acceptance) → m.phase ≡ Switched a → (r : ℕ) × (switches_to (masters r).stage ≡ Some a.next)
  pub resumed_in : m.resumed ≤ m.epoch
  pub resumed : (m.resumed ≡ 0) ⊎ ((masters m.resumed).stage ≡ Resuming)

-- What a member knows, beside what was chosen.
pub record IsFaithful (members : ℕ) (reports : List Sent) (ended : ℕ → Bool) (m : SuccessionState) : Type 0 where
  pub accepted : (r : ℕ) (next : Members) (a : Acceptance) → IsChosen members reports r next
      → acceptance_of m.phase ≡ Some a → r < a.epoch → IsThatOrVoid ended a.next next
  pub resumed : (r : ℕ) (next : Members) → IsChosen members reports r next → r < m.resumed → HaveEnded ended next

-- A report, beside what its member and the masters know.
pub record IsSoundReport (masters : ℕ → DecisionState) (m : SuccessionState) (view_now : ℕ) (s : Sent)
    : Type 0 where
  pub epoch : s.report.epoch ≤ m.epoch
  pub view : (j : ℕ) → has s.report.standing.view j ≡ true → has view_now j ≡ true
  pub entered : (a : Acceptance) → acceptance_of s.report.phase ≡ Some a → a.epoch ≤ s.report.epoch
  pub proposed : (a : Acceptance) → acceptance_of s.report.phase ≡ Some a
      → proposed_of (masters a.epoch).stage ≡ Some a.next
  pub keeps : (a : Acceptance) → acceptance_of s.report.phase ≡ Some a → a.epoch ≡ s.report.epoch
      → Keeps s.report.epoch m
  pub switched : (a : Acceptance) → s.report.phase ≡ Switched a → m.phase ≡ Switched a

-- Two reports of one member, in different epochs.
pub record AreInTurn (m : SuccessionState) (s t : Sent) : Type 0 where
  pub view : (j : ℕ) → has s.report.standing.view j ≡ true → has t.report.standing.view j ≡ true
  pub keeps : (a : Acceptance) → acceptance_of s.report.phase ≡ Some a → a.epoch ≡ s.report.epoch
      → IsAcceptedSince s.report.epoch t.report.phase ⊎ (s.report.epoch < m.resumed)

-- What a master knows, and what it has decided.
pub record IsSoundMaster (all : ℕ) (them : ℕ → SuccessionState) (missing over : ℕ → Bool) (reports : List Sent) (r : ℕ)
    (d : DecisionState) : Type 0 where
  pub epoch : d.epoch ≡ r
  pub members : d.members ≡ all
  pub knows : (i : ℕ) (report : Report) → report_at d.reports i ≡ Some report
      → Among (record { from = i; report = report }) reports
  pub own : (i : ℕ) (report : Report) → report_at d.reports i ≡ Some report → report.epoch ≡ r
  pub views : (i : ℕ) (report : Report) → report_at d.reports i ≡ Some report
      → (j : ℕ) → has report.standing.view j ≡ true → has d.gone j ≡ true
  pub gone : (j : ℕ) → has d.gone j ≡ true → missing j ≡ true
  pub ended : (p : ℕ) → Contains d.ended p → over p ≡ true
  pub entered : d.stage ≢ Looking → (i : ℕ) → is_member all i ≡ true → (missing i ≡ true) ⊎ (r ≤ (them i).epoch)
  pub proposed : (q : ℕ) (next : Members) (own : Members) → IsChosen all reports q next → q < r
      → proposed_of d.stage ≡ Some own → IsThatOrVoid over own next ⊎ AreGone all missing
  pub resuming : (q : ℕ) (next : Members) → IsChosen all reports q next → q < r
      → d.stage ≡ Resuming → HaveEnded over next ⊎ AreGone all missing
  pub chosen : (next : Members) → switches_to d.stage ≡ Some next → (q : ℕ) × IsChosen all reports q next

-- a member has switched to these, or it is gone
abbrev pub HasSwitched : (ℕ → SuccessionState) → (ℕ → Bool) → ℕ → Members → Type 0
HasSwitched members gone i next = (gone i ≡ true) ⊎ ((a : Acceptance) × ((members i).phase ≡ Switched a)
    × (a.next ≡ next))

-- An order that was sent, beside the master that sent it.
abbrev pub IsSoundOrder : ℕ → (ℕ → DecisionState) → (ℕ → SuccessionState) → (ℕ → Bool) → Order → Type 0
IsSoundOrder all masters members gone (Seal r generation next) = proposed_of (masters r).stage ≡ Some next
IsSoundOrder all masters members gone (Resume r generation) = (masters r).stage ≡ Resuming
IsSoundOrder all masters members gone (Poll r) = Unit {0}
IsSoundOrder all masters members gone (Switch r generation next count) = switches_to (masters r).stage ≡ Some next
IsSoundOrder all masters members gone (Open r generation next) =
    (switches_to (masters r).stage ≡ Some next)
    × ((i : ℕ) → is_member all i ≡ true → HasSwitched members gone i next)

-- A process that has started is one of those that some master had members switch to.
pub record IsStarted (masters : ℕ → DecisionState) (p : ℕ) (next : Members) : Type 0 where
  pub one : IsOne p next
  pub by : (r : ℕ) × (switches_to (masters r).stage ≡ Some next)

-- These were chosen, and whatever was accepted later is the same.
pub record Lasts (all : ℕ) (reports : List Sent) (next : Members) : Type 0 where
  pub epoch : ℕ
  pub chosen : IsChosen all reports epoch next
  pub later : (s : Sent) (a : Acceptance) → Among s reports → acceptance_of s.report.phase ≡ Some a → epoch < a.epoch
      → a.next ≡ next

-- The next generation was opened by an order.
pub record IsOpened (all : ℕ) (orders : List Order) (reports : List Sent) (next : Members) : Type 0 where
  pub order : (r : ℕ) × (generation : ℕ) × Among (Open r generation next) orders
  pub lasts : Lasts all reports next

-- All of it.
pub record IsSound (all : ℕ) (w : Life) : Type 0 where
  pub members : (i : ℕ) → IsSoundMember w.masters (w.members i)
  pub faithful : (i : ℕ) → IsFaithful all w.reports w.ended (w.members i)
  pub views : (i j : ℕ) → has (w.views i) j ≡ true → w.gone j ≡ true
  pub reports : (s : Sent) → Among s w.reports
      → IsSoundReport w.masters (w.members s.from) (w.views s.from) s
  pub in_turn : (s t : Sent) → Among s w.reports → Among t w.reports → s.from ≡ t.from → s.report.epoch < t.report.epoch
      → AreInTurn (w.members s.from) s t
  pub since : (s : Sent) → Among s w.reports → (r : ℕ) (next : Members) (a : Acceptance) → IsChosen all w.reports r next
      → acceptance_of s.report.phase ≡ Some a → r < a.epoch → IsThatOrVoid w.ended a.next next
  pub masters : (r : ℕ) → IsSoundMaster all w.members w.gone w.ended w.reports r (w.masters r)
  pub orders : (o : Order) → Among o w.orders → IsSoundOrder all w.masters w.members w.gone o
  pub started : (p : ℕ) (next : Members) → w.started p ≡ Some next → IsStarted w.masters p next
  pub opened : (p : ℕ) (next : Members) → w.opened p ≡ true → w.started p ≡ Some next
      → IsOpened all w.orders w.reports next
  pub begun : (p : ℕ) → w.opened p ≡ true → w.started p ≢ None
