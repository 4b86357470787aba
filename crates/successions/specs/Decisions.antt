-- A master's side: what it knows of the members of a generation, and when it may decide what (this project's rule).
use Rattle.std.specs.Prelude.{◌≡◌, ◌≢◌, ℕ, zero, suc, ◌≤◌, ◌<◌, ◌⊎◌, bit_or, nat_eq, nat_le, nat_lt, Bool, true}
use Rattle.std.specs.Prelude.{false, not, ◌&&◌, List, [], ◌∷◌, ◌++◌, Contains}
use Rattle.std.specs.Prelude.{replicate, slice_index_or, slice_set, Option, None, Some, if◌then◌else◌}
use Rattle.leases.specs.Sets.{has}
use Rattle.successions.specs.declared.members.Members.{Members}
use Rattle.successions.specs.declared.members.Acceptance.{Acceptance}
use Rattle.successions.specs.declared.orders.Phase.{Phase}
use Rattle.successions.specs.declared.orders.Phase.TheVariants.{Started, Serving, Sealed, Switched}
use Rattle.successions.specs.declared.orders.Report.{Report}
use Rattle.successions.specs.declared.orders.Order.{Order}
use Rattle.successions.specs.declared.orders.Order.TheVariants.{Seal, Resume, Poll, Switch}
use Rattle.successions.specs.declared.stages.Stage.{Stage}
use Rattle.successions.specs.declared.stages.Stage.TheVariants.{Looking, Resuming, Proposing, Switching, Finishing}
use Rattle.successions.specs.declared.questions.Question.{Question}
use Rattle.successions.specs.declared.questions.Question.TheVariants.{IsThere, IsSilent, HasSwitched}
use Rattle.successions.specs.declared.questions.Question.TheVariants.{HasAcceptedNothing, IsNotReady, IsElsewhere}
use Rattle.successions.specs.Lists.{is_same}
use Rattle.successions.specs.Successions.{acceptance_of, is_quiet}

-- What a master of an epoch knows of a generation.
pub record DecisionState : Type 0 where
  pub epoch : ℕ
  pub generation : ℕ
  -- the members of the generation, by their ids: member i is the bit of value 2^i
  pub members : ℕ
  -- those that are gone: they do nothing any more
  pub gone : ℕ
  -- the newest report of each, by its id
  pub reports : List (Option Report)
  -- processes that have ended
  pub ended : List ℕ
  pub stage : Stage

-- it knows nothing but who the members are
abbrev pub looking : ℕ → ℕ → ℕ → DecisionState
looking epoch generation members = record {
  epoch = epoch;
  generation = generation;
  members = members;
  gone = 0;
  reports = replicate 16 None;
  ended = [];
  stage = Looking;
}

-- the newest report of a member
abbrev pub report_at : List (Option Report) → ℕ → Option Report
report_at reports i = slice_index_or reports i None

-- a report is no older than another one, if that is there
abbrev pub is_newer : Report → Option Report → Bool
is_newer report None = true
is_newer report (Some earlier) = nat_le earlier.number report.number

-- a report counts if it is of the master's epoch and generation, and no older than the last one of this member
abbrev pub is_news : DecisionState → ℕ → Report → Bool
is_news d from report =
    nat_eq report.epoch d.epoch
    && (nat_eq report.generation d.generation && is_newer report (report_at d.reports from))

-- It hears a report. Whom the member knows to be gone is gone for the master too, from then on.
abbrev pub heard : DecisionState → ℕ → Report → DecisionState
heard d from report =
    if is_news d from report
    then record d { gone = bit_or d.gone report.standing.view; reports = slice_set d.reports from (Some report) }
    else d

-- it knows that these members are gone
abbrev pub without : DecisionState → ℕ → DecisionState
without d gone = record d { gone = bit_or d.gone gone }

-- it knows that a process has ended
abbrev pub after_end : DecisionState → ℕ → DecisionState
after_end d process = record d { ended = d.ended ++ process ∷ [] }

-- these are members, by the set
abbrev pub is_member : ℕ → ℕ → Bool
is_member members i = nat_lt i 16 && has members i

-- this member counts: it isn't gone, as far as the master knows
abbrev pub counts : DecisionState → ℕ → Bool
counts d i = is_member d.members i && not (has d.gone i)

-- This is the newest report of a member that counts.
pub record Tells (d : DecisionState) (i : ℕ) (report : Report) : Type 0 where
  pub counts : counts d i ≡ true
  pub told : report_at d.reports i ≡ Some report

-- Each member that counts has told how it is, and some member counts.
pub record HasHeardAll (d : DecisionState) : Type 0 where
  pub all : (i : ℕ) → counts d i ≡ true → (report : Report) × Tells d i report
  pub some : (i : ℕ) × (counts d i ≡ true)

-- Each member that counts has told how it is, and none has switched.
pub record IsUnswitched (d : DecisionState) : Type 0 where
  pub heard : HasHeardAll d
  pub none : (i : ℕ) (report : Report) (a : Acceptance) → Tells d i report → report.phase ≢ Switched a

-- Each of these processes has ended. A place with 0 is no process.
abbrev pub AreEnded : List ℕ → Members → Type 0
AreEnded ended next = (process : ℕ) → process ≢ 0 → Contains next.processes process → Contains ended process

-- This was accepted in the highest epoch of all that members that count have accepted; if several have accepted in that
-- epoch, it is what the first of them by its id has.
pub record IsHighest (d : DecisionState) (a : Acceptance) : Type 0 where
  pub by : ℕ
  pub report : Report
  pub tells : Tells d by report
  pub accepted : acceptance_of report.phase ≡ Some a
  pub most : (i : ℕ) (other : Report) (b : Acceptance) → Tells d i other → acceptance_of other.phase ≡ Some b
      → b.epoch ≤ a.epoch
  pub first : (i : ℕ) (other : Report) (b : Acceptance) → Tells d i other → acceptance_of other.phase ≡ Some b
      → i < by → b.epoch < a.epoch

-- Some member that counts has accepted nothing.
pub record IsUnaccepted (d : DecisionState) : Type 0 where
  pub by : ℕ
  pub report : Report
  pub tells : Tells d by report
  pub nothing : acceptance_of report.phase ≡ None

-- Each member that counts has accepted something.
abbrev pub AreAccepted : DecisionState → Type 0
AreAccepted d = (i : ℕ) (report : Report) → Tells d i report → acceptance_of report.phase ≢ None

-- Each has, and the processes of what was accepted in the highest epoch have all ended.
pub record IsVoid (d : DecisionState) : Type 0 where
  pub all : AreAccepted d
  pub highest : Acceptance
  pub is : IsHighest d highest
  pub ended : AreEnded d.ended highest.next

-- A master is free to have the members go on, or accept whom it likes: it hasn't decided in its epoch, no member has
-- switched, and some member has accepted nothing, or what was accepted in the highest epoch is void.
pub record IsFree (d : DecisionState) : Type 0 where
  pub first : d.stage ≡ Looking
  pub unswitched : IsUnswitched d
  pub why : IsUnaccepted d ⊎ IsVoid d

-- A master may adopt what was accepted in the highest epoch, if each member that counts has accepted something.
pub record IsAdopted (d : DecisionState) (next : Members) : Type 0 where
  pub first : d.stage ≡ Looking
  pub unswitched : IsUnswitched d
  pub all : AreAccepted d
  pub highest : Acceptance
  pub is : IsHighest d highest
  pub same : next ≡ highest.next

-- It may have the members accept these.
abbrev pub MayPropose : DecisionState → Members → Type 0
MayPropose d next = IsFree d ⊎ IsAdopted d next

-- It goes on with a switch that was begun: a member that counts has switched to these, with a table of so many updates.
pub record IsBegun (d : DecisionState) (next : Members) (count : ℕ) : Type 0 where
  pub first : d.stage ≡ Looking
  pub heard : HasHeardAll d
  pub by : ℕ
  pub report : Report
  pub tells : Tells d by report
  pub epoch : ℕ
  pub switched : report.phase ≡ Switched (record { epoch = epoch; next = next })
  pub whole : report.standing.last ≡ count

-- A report of a member that has accepted these in this epoch, knows of exactly these that they are gone, and is quiet
-- with a table of so many updates.
pub record IsReady (epoch : ℕ) (next : Members) (gone count : ℕ) (report : Report) : Type 0 where
  pub accepted : report.phase ≡ Sealed (record { epoch = epoch; next = next })
  pub view : report.standing.view ≡ gone
  pub idle : report.standing.idle ≡ true
  pub last : report.standing.last ≡ count
  pub committed : report.standing.committed ≡ count

-- The members agree on these, and on a table of so many updates: each that counts has accepted them in the master's
-- epoch, knows that exactly the others are gone, and is quiet with such a table.
pub record AreAgreed (d : DecisionState) (next : Members) (count : ℕ) : Type 0 where
  pub heard : HasHeardAll d
  pub ready : (i : ℕ) (report : Report) → Tells d i report → IsReady d.epoch next d.gone count report

-- It is decided that these are the next members, who begin with a table of so many updates: the master has proposed
-- them, and the members agree.
pub record IsDecided (d : DecisionState) (next : Members) (count : ℕ) : Type 0 where
  pub proposed : d.stage ≡ Proposing next
  pub agreed : AreAgreed d next count

-- the members that it has the others switch to
abbrev pub switches_to : Stage → Option Members
switches_to Looking = None
switches_to Resuming = None
switches_to (Proposing next) = None
switches_to (Switching next count) = Some next
switches_to (Finishing next count) = Some next

-- The next generation may be opened: each member that counts has told that it has switched to it.
pub record MayOpen (d : DecisionState) (next : Members) : Type 0 where
  pub chosen : switches_to d.stage ≡ Some next
  pub switched : (i : ℕ) → counts d i ≡ true
      → (report : Report) × (a : Acceptance)
      × Tells d i report × (report.phase ≡ Switched a) × (a.next ≡ next)

-- what it sends to the members
abbrev pub order_of : DecisionState → Stage → Order
order_of d Looking = Poll d.epoch
order_of d Resuming = Resume d.epoch d.generation
order_of d (Proposing next) = Seal d.epoch d.generation next
order_of d (Switching next count) = Switch d.epoch d.generation next count
order_of d (Finishing next count) = Switch d.epoch d.generation next count

-- ---- what is asked of each member in turn

abbrev pub is_switched : Phase → Bool
is_switched Started = false
is_switched Serving = false
is_switched (Sealed a) = false
is_switched (Switched a) = true

abbrev pub is_unaccepted : Phase → Bool
is_unaccepted Started = true
is_unaccepted Serving = true
is_unaccepted (Sealed a) = false
is_unaccepted (Switched a) = false

abbrev pub is_sealed_to : ℕ → Members → Phase → Bool
is_sealed_to epoch next Started = false
is_sealed_to epoch next Serving = false
is_sealed_to epoch next (Sealed a) = nat_eq a.epoch epoch && is_same a.next.processes next.processes
is_sealed_to epoch next (Switched a) = false

abbrev pub is_switched_to : Members → Phase → Bool
is_switched_to next Started = false
is_switched_to next Serving = false
is_switched_to next (Sealed a) = false
is_switched_to next (Switched a) = is_same a.next.processes next.processes

-- the report of a member that is ready to switch
abbrev pub is_ready : ℕ → Members → ℕ → ℕ → Report → Bool
is_ready epoch next gone count report =
    is_sealed_to epoch next report.phase
    && (nat_eq report.standing.view gone && is_quiet report.standing count)

-- the answer, by the newest report of a member that counts
abbrev pub answer_by : DecisionState → Question → Option Report → Bool
answer_by d IsThere report = true
answer_by d IsSilent None = true
answer_by d IsSilent (Some report) = false
answer_by d HasSwitched None = false
answer_by d HasSwitched (Some report) = is_switched report.phase
answer_by d HasAcceptedNothing None = false
answer_by d HasAcceptedNothing (Some report) = is_unaccepted report.phase
answer_by d (IsNotReady next count) None = true
answer_by d (IsNotReady next count) (Some report) = not (is_ready d.epoch next d.gone count report)
answer_by d (IsElsewhere next) None = true
answer_by d (IsElsewhere next) (Some report) = not (is_switched_to next report.phase)

-- a member counts, and the answer is yes
abbrev pub answers : DecisionState → Question → ℕ → Bool
answers d question i = counts d i && answer_by d question (report_at d.reports i)

-- ---- what was accepted in the highest epoch

abbrev pub acceptance_in : Option Report → Option Acceptance
acceptance_in None = None
acceptance_in (Some report) = acceptance_of report.phase

-- what this member has accepted, if it counts
abbrev pub accepted_at : DecisionState → ℕ → Option Acceptance
accepted_at d i = if counts d i then acceptance_in (report_at d.reports i) else None

-- the one of the higher epoch; the earlier one if it is the same
abbrev pub higher : Option Acceptance → Option Acceptance → Option Acceptance
higher None later = later
higher (Some one) None = Some one
higher (Some one) (Some other) = if nat_lt one.epoch other.epoch then Some other else Some one

-- the highest of the first n members
unfoldable pub highest_below : DecisionState → ℕ → Option Acceptance
highest_below d zero = None
highest_below d (suc n) = higher (highest_below d n) (accepted_at d n)

-- the newest report of a member that counts, and answers with yes
abbrev pub answering : DecisionState → Question → ℕ → Option Report
answering d question i = if answers d question i then report_at d.reports i else None

-- whom a report says that its member has switched to, with a table of so many updates
abbrev pub switched_in : Phase → ℕ → Option (Members × ℕ)
switched_in Started last = None
switched_in Serving last = None
switched_in (Sealed a) last = None
switched_in (Switched a) last = Some (a.next, last)
