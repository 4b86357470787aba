-- The numbers of each message, their bytes, and which messages there are (this project's rule).
use Rattle.std.specs.Prelude.{◌≡◌, ℕ, ◌<◌, ◌^◌, Bool, true, false, List, [], ◌∷◌, ◌++◌, length, Option, Some, None}
use Rattle.std.specs.List.{flat_map, AllByRecursion}
use Rattle.std.specs.Int.{w64, to_be_bytes}
use Rattle.successions.specs.declared.members.Members.{Members}
use Rattle.successions.specs.declared.members.Acceptance.{Acceptance}
use Rattle.successions.specs.declared.orders.Order.{Order}
use Rattle.successions.specs.declared.orders.Order.TheVariants.{Seal, Resume, Poll, Switch, Open}
use Rattle.successions.specs.declared.orders.Phase.{Phase}
use Rattle.successions.specs.declared.orders.Phase.TheVariants.{Started, Serving, Sealed, Switched}
use Rattle.successions.specs.declared.orders.Standing.{Standing}
use Rattle.successions.specs.declared.orders.Report.{Report}
use Rattle.seals.specs.declared.markers.Marker.{Marker}
use Rattle.chain_status.specs.declared.reports.Calls.{Calls}
use Rattle.chain_status.specs.declared.reports.Inbox.{Inbox}
use Rattle.chain_status.specs.declared.reports.LeaseState.{LeaseState}
use Rattle.chain_status.specs.declared.reports.Memory.{Memory}
use Rattle.chain_status.specs.declared.reports.Refused.{Refused}
use Rattle.chain_status.specs.declared.reports.ServerReport.{ServerReport}
use Rattle.chain_status.specs.declared.reports.Usage.{Usage}
use Rattle.chain_status.specs.declared.reports.Version.{Version}
use Rattle.control_messages.specs.declared.messages.ControlMessage.{ControlMessage}
use Rattle.control_messages.specs.declared.messages.ControlMessage.TheVariants as messages

-- ---- the numbers of a message: the first is its kind

-- an order: its epoch, then what it names
abbrev pub order_numbers : Order → List ℕ
order_numbers (Seal epoch generation next) = 1 ∷ epoch ∷ generation ∷ next.processes
order_numbers (Resume epoch generation) = 2 ∷ epoch ∷ generation ∷ []
order_numbers (Poll epoch) = 3 ∷ epoch ∷ []
order_numbers (Switch epoch generation next count) = 4 ∷ epoch ∷ generation ∷ (next.processes ++ count ∷ [])
order_numbers (Open epoch generation own) = 5 ∷ epoch ∷ generation ∷ own.processes

-- what a member has accepted: in which epoch, and whom
abbrev pub acceptance_numbers : Acceptance → List ℕ
acceptance_numbers a = a.epoch ∷ a.next.processes

-- what a member is at: 0 to 3, and what it has accepted
abbrev pub phase_numbers : Phase → List ℕ
phase_numbers Started = 0 ∷ []
phase_numbers Serving = 1 ∷ []
phase_numbers (Sealed acceptance) = 2 ∷ acceptance_numbers acceptance
phase_numbers (Switched acceptance) = 3 ∷ acceptance_numbers acceptance

-- a flag: 1 if it is set, else 0
abbrev pub flag : Bool → ℕ
flag false = 0
flag true = 1

-- how the table of a member is
abbrev pub standing_numbers : Standing → List ℕ
standing_numbers s = s.view ∷ s.last ∷ s.committed ∷ flag s.idle ∷ []

-- a member's report
abbrev pub report_numbers : Report → List ℕ
report_numbers r = r.number ∷ r.epoch ∷ r.generation ∷ (phase_numbers r.phase ++ standing_numbers r.standing)

-- a marker
abbrev pub marker_numbers : Marker → List ℕ
marker_numbers m =
    m.generation ∷ m.epoch ∷ m.numbers.view ∷ m.numbers.last ∷ m.numbers.committed ∷ []

-- what may be there or not: 0, or 1 and its numbers
abbrev pub optional : {A : Type 0} → (A → List ℕ) → Option A → List ℕ
optional numbers None = 0 ∷ []
optional numbers (Some x) = 1 ∷ numbers x

-- a number alone
abbrev pub alone : ℕ → List ℕ
alone n = n ∷ []

-- members of a server's report
abbrev pub version_numbers : Version → List ℕ
version_numbers v = v.major ∷ v.minor ∷ v.patch ∷ []

abbrev pub memory_numbers : Memory → List ℕ
memory_numbers m = m.items ∷ m.estimate ∷ optional alone m.limit

abbrev pub usage_numbers : Usage → List ℕ
usage_numbers u = u.used ∷ u.limit ∷ []

abbrev pub calls_numbers : Calls → List ℕ
calls_numbers c = c.clean_reads ∷ c.dirty_reads ∷ c.updates ∷ []

abbrev pub inbox_numbers : Inbox → List ℕ
inbox_numbers i = i.length ∷ i.taken ∷ []

abbrev pub lease_numbers : LeaseState → List ℕ
lease_numbers l = l.reign ∷ l.left ∷ []

abbrev pub refused_numbers : Refused → List ℕ
refused_numbers r = r.connections ∷ r.stores ∷ []

-- a server's report: its members in their order
abbrev pub server_numbers : ServerReport → List ℕ
server_numbers r =
    r.id ∷ r.servers ∷ (version_numbers r.version
    ++ (r.start ∷ r.uptime ∷ r.view ∷ r.stalled ∷ r.last ∷ r.committed ∷ (memory_numbers r.memory
    ++ (usage_numbers r.connections ++ (usage_numbers r.seats ++ (calls_numbers r.calls
    ++ (r.questions ∷ (inbox_numbers r.inbox ++ (optional lease_numbers r.lease ++ refused_numbers r.refused)))))))))

-- a message's kind, and what it says
abbrev pub numbers_of : ControlMessage → List ℕ
numbers_of (messages.Order order) = order_numbers order
numbers_of (messages.Report report) = 6 ∷ report_numbers report
numbers_of (messages.Marker marker) = 7 ∷ marker_numbers marker
numbers_of messages.StatusQuestion = 8 ∷ []
numbers_of (messages.Status report) = 9 ∷ server_numbers report

-- ---- their bytes

-- a number in eight bytes, the highest first
abbrev pub eight_bytes : ℕ → List ℕ
eight_bytes n = to_be_bytes w64 n

-- the bytes of numbers, one after another
unfoldable pub spelled : List ℕ → List ℕ
spelled numbers = flat_map eight_bytes numbers

-- ---- which messages there are

-- numbers that eight bytes can spell
abbrev pub AreNumbers : List ℕ → Type 0
AreNumbers numbers = AllByRecursion (λ n. n < 2 ^ 64) numbers

-- there are sixteen processes
abbrev pub HasMembers : Members → Type 0
HasMembers members = length members.processes ≡ 16

-- what an order names has the width of its type
abbrev pub HasOrderWidths : Order → Type 0
HasOrderWidths (Seal epoch generation next) = HasMembers next
HasOrderWidths (Resume epoch generation) = Unit {0}
HasOrderWidths (Poll epoch) = Unit {0}
HasOrderWidths (Switch epoch generation next count) = HasMembers next
HasOrderWidths (Open epoch generation own) = HasMembers own

-- what a member has accepted is such
abbrev pub HasPhaseWidths : Phase → Type 0
HasPhaseWidths Started = Unit {0}
HasPhaseWidths Serving = Unit {0}
HasPhaseWidths (Sealed acceptance) = HasMembers acceptance.next
HasPhaseWidths (Switched acceptance) = HasMembers acceptance.next

-- sets of members have two bytes
abbrev pub HasStandingWidths : Standing → Type 0
HasStandingWidths s = s.view < 2 ^ 16

abbrev pub HasMarkerWidths : Marker → Type 0
HasMarkerWidths m = m.numbers.view < 2 ^ 16

-- the narrow numbers of a version
pub record HasVersionWidths (v : Version) : Type 0 where
  pub major : v.major < 2 ^ 16
  pub minor : v.minor < 2 ^ 16
  pub patch : v.patch < 2 ^ 16

-- the narrow numbers of a server's report
pub record HasServerWidths (r : ServerReport) : Type 0 where
  pub id : r.id < 2 ^ 8
  pub servers : r.servers < 2 ^ 8
  pub version : HasVersionWidths r.version
  pub view : r.view < 2 ^ 16
  pub stalled : r.stalled < 2 ^ 16

-- what a message says has the widths of its types
abbrev pub HasWidths : ControlMessage → Type 0
HasWidths (messages.Order order) = HasOrderWidths order
HasWidths (messages.Report report) = HasPhaseWidths report.phase × HasStandingWidths report.standing
HasWidths (messages.Marker marker) = HasMarkerWidths marker
HasWidths messages.StatusQuestion = Unit {0}
HasWidths (messages.Status report) = HasServerWidths report

-- a message that there can be
pub record IsMessage (m : ControlMessage) : Type 0 where
  pub numbers : AreNumbers (numbers_of m)
  pub widths : HasWidths m

-- these bytes spell this message
pub record Spells (m : ControlMessage) (bytes : List ℕ) : Type 0 where
  pub message : IsMessage m
  pub same : bytes ≡ spelled (numbers_of m)
