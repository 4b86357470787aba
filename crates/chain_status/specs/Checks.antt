-- What is found to be wrong with a chain by a look at it, and by an earlier one (this project's rule).
use Rattle.std.specs.Prelude.{ℕ, zero, suc, ◌*◌, nat_eq, nat_le, nat_lt, bit_and, bit_xor, Bool, true, false, not}
use Rattle.std.specs.Prelude.{◌&&◌, ◌||◌, List, [], ◌∷◌, replicate, Option, Some, None, is_some, is_none, length}
use Rattle.std.specs.Prelude.{if◌then◌else◌}
use Rattle.chain_status.specs.declared.reports.LeaseState.{LeaseState}
use Rattle.chain_status.specs.declared.reports.Memory.{Memory}
use Rattle.chain_status.specs.declared.reports.ServerReport.{ServerReport}
use Rattle.chain_status.specs.declared.reports.Usage.{Usage}
use Rattle.chain_status.specs.declared.reports.Version.{Version}
use Rattle.chain_status.specs.declared.roles.Role.{Role}
use Rattle.chain_status.specs.declared.roles.Role.TheVariants as role
use Rattle.chain_status.specs.declared.answers.ServerAnswer.{ServerAnswer}
use Rattle.chain_status.specs.declared.answers.ServerAnswer.TheVariants as answer
use Rattle.chain_status.specs.declared.faults.Fault.{Fault}
use Rattle.chain_status.specs.declared.faults.Fault.TheVariants.{NoneLeft, NoneAnswers, LastOne, Gone, NoConnection}
use Rattle.chain_status.specs.declared.faults.Fault.TheVariants.{Stranger, NoAnswer, Unaware, Stalled, LeaseOver, Stuck}
use Rattle.chain_status.specs.declared.faults.Fault.TheVariants.{MemoryFull, MemoryHigh, ConnectionsFull, OtherVersion}
use Rattle.chain_status.specs.declared.faults.Fault.TheVariants.{StartedAnew}
use Rattle.chain_status.specs.Answers.{report_at, gone_by}
use Rattle.chain_status.specs.Roles.{last_below}
use Rattle.chain_status.specs.Looks.{Look, servers_of, answer_at, role_at}
use Rattle.chain_status.specs.Faults.{with_found}

-- a fault, if it is there
abbrev pub found : Bool → Fault → Option Fault
found false fault = None
found true fault = Some fault

-- ---- of the chain

-- the version that was found already, or that of this report
abbrev pub first_of : Option Version → Option ServerReport → Option Version
first_of (Some version) report = Some version
first_of None (Some report) = Some report.version
first_of None None = None

-- the version of the first one of the first n servers that said how it is
unfoldable pub version_below : Look → ℕ → Option Version
version_below look zero = None
version_below look (suc n) = first_of (version_below look n) (report_at look.answers n)

abbrev pub first_version : Look → Option Version
first_version look = version_below look (servers_of look)

-- some server said how it is
abbrev pub has_report : Look → Bool
has_report look = is_some (first_version look)

abbrev pub is_only : Role → Bool
is_only role.Gone = false
is_only role.Only = true
is_only role.Head = false
is_only role.Middle = false
is_only role.Tail = false

abbrev pub is_gone : Role → Bool
is_gone role.Gone = true
is_gone role.Only = false
is_gone role.Head = false
is_gone role.Middle = false
is_gone role.Tail = false

-- the last one that is left, if it is the only one of a chain that had more
abbrev pub last_one : Look → Option ℕ → Option Fault
last_one look None = None
last_one look (Some i) = found (nat_lt 1 (servers_of look) && is_only (role_at look i)) (LastOne i)

-- what is wrong with the chain: all are gone, none said how it is, or one alone is left
abbrev pub chain_checks : Look → List (Option Fault)
chain_checks look =
    let left = last_below (gone_by look.answers) (servers_of look) in
    found (is_none left) NoneLeft ∷ found (not (has_report look)) NoneAnswers ∷ last_one look left ∷ []

-- ---- of a server that isn't gone, by its report

-- those of a set that aren't in another one
abbrev pub outside : ℕ → ℕ → ℕ
outside set other = bit_xor set (bit_and set other)

abbrev pub is_lease_over : Option LeaseState → Bool
is_lease_over None = false
is_lease_over (Some lease) = nat_eq lease.left 0

-- inputs wait for the worker, and waited before, and it has taken none in between
abbrev pub is_stuck : ServerReport → Option ServerReport → Bool
is_stuck report None = false
is_stuck report (Some before) =
    nat_eq before.start report.start
    && (nat_eq before.inbox.taken report.inbox.taken
    && (nat_lt 0 before.inbox.length && nat_lt 0 report.inbox.length))

-- the items take as much as they may, or four fifths of it
abbrev pub memory_within : ℕ → ℕ → Option ℕ → Option Fault
memory_within i estimate None = None
memory_within i estimate (Some limit) =
    if nat_le limit estimate then Some (MemoryFull i) else found (nat_le (4 * limit) (5 * estimate)) (MemoryHigh i)

abbrev pub memory_check : ℕ → Memory → Option Fault
memory_check i memory = memory_within i memory.estimate memory.limit

-- as many are in use as may be
abbrev pub is_used_up : Usage → Bool
is_used_up usage = nat_le usage.limit usage.used

-- there is a first version, and this is another one
abbrev pub is_other : Version → Option Version → Bool
is_other version None = false
is_other version (Some first) =
    not (nat_eq version.major first.major)
    || (not (nat_eq version.minor first.minor) || not (nat_eq version.patch first.patch))

-- it is another start than before
abbrev pub is_anew : ServerReport → Option ServerReport → Bool
is_anew report None = false
is_anew report (Some before) = not (nat_eq before.start report.start)

abbrev pub report_checks : ℕ → ServerReport → Option ServerReport → ℕ → Option Version → List (Option Fault)
report_checks i report before gone first =
    found (not (nat_eq (outside gone report.view) 0)) (Unaware i (outside gone report.view))
    ∷ found (not (nat_eq (outside report.stalled gone) 0)) (Stalled i (outside report.stalled gone))
    ∷ found (is_lease_over report.lease) (LeaseOver i)
    ∷ found (is_stuck report before) (Stuck i)
    ∷ memory_check i report.memory
    ∷ found (is_used_up report.connections) (ConnectionsFull i)
    ∷ found (is_other report.version first) (OtherVersion i)
    ∷ found (is_anew report before) (StartedAnew i)
    ∷ []

-- ---- of each server

-- this one alone
abbrev pub only : Option Fault → List (Option Fault)
only fault = fault ∷ replicate 7 None

-- what is wrong with server i, which isn't gone, by its answer and by what it said before
abbrev pub answer_checks : Look → ℕ → Option ServerReport → Option ServerAnswer → List (Option Fault)
answer_checks look i before None = only None
answer_checks look i before (Some (answer.Reported report)) =
    report_checks i report before (gone_by look.answers) (first_version look)
answer_checks look i before (Some (answer.NoConnection why)) = only (Some (NoConnection i why))
answer_checks look i before (Some (answer.Stranger why)) = only (Some (Stranger i why))
answer_checks look i before (Some answer.NoAnswer) = only (Some (NoAnswer i))

-- what is wrong with server i: that it is gone and nothing else, or what its answer says
abbrev pub server_checks : Look → Look → ℕ → List (Option Fault)
server_checks earlier look i =
    if is_gone (role_at look i) then only (Some (Gone i))
    else answer_checks look i (report_at earlier.answers i) (answer_at look i)

-- what is wrong with the chain, and with the first n servers
unfoldable pub faults_below : Look → Look → ℕ → List Fault
faults_below earlier look zero = with_found [] (chain_checks look)
faults_below earlier look (suc n) = with_found (faults_below earlier look n) (server_checks earlier look n)

-- all that is wrong
abbrev pub faults_of : Look → Look → List Fault
faults_of earlier look = faults_below earlier look (servers_of look)
