-- How a message is read: its numbers from the front, each with the bytes after it, or nothing.
use Rattle.std.specs.Prelude.{◌≡◌, ℕ, zero, suc, ◌^◌, Bool, true, false, List, [], ◌∷◌, length, take, drop, nat_lt}
use Rattle.std.specs.Prelude.{◌==◌, Option, Some, None, if◌then◌else◌}
use Rattle.std.specs.Int.{w64, from_be_bytes}
use Rattle.successions.specs.declared.members.Members.{Members}
use Rattle.successions.specs.declared.members.Acceptance.{Acceptance}
use Rattle.successions.specs.declared.orders.Order.{Order}
use Rattle.successions.specs.declared.orders.Order.TheVariants.{Seal, Resume, Poll, Switch, Open}
use Rattle.successions.specs.declared.orders.Phase.{Phase}
use Rattle.successions.specs.declared.orders.Phase.TheVariants.{Started, Serving, Sealed, Switched}
use Rattle.successions.specs.declared.orders.Standing.{Standing}
use Rattle.successions.specs.declared.orders.Report.{Report}
use Rattle.seals.specs.declared.markers.Numbers.{Numbers}
use Rattle.seals.specs.declared.markers.Marker.{Marker}
use Rattle.chain_status.specs.declared.reports.Calls.{Calls}
use Rattle.chain_status.specs.declared.reports.Inbox.{Inbox}
use Rattle.chain_status.specs.declared.reports.LeaseState.{LeaseState}
use Rattle.chain_status.specs.declared.reports.Memory.{Memory}
use Rattle.chain_status.specs.declared.reports.Refused.{Refused}
use Rattle.chain_status.specs.declared.reports.ServerReport.{ServerReport}
use Rattle.chain_status.specs.declared.reports.Usage.{Usage}
use Rattle.chain_status.specs.declared.reports.Version.{Version}
use Rattle.control_messages.specs.declared.messages.ControlMessage.{ControlMessage}
use Rattle.control_messages.specs.declared.messages.ControlMessage.TheVariants as messages

-- a value and the bytes after it, or nothing
abbrev pub Read : Type 0 → Type 0
Read A = Option (A × List ℕ)

infixl 10 ◌>>=◌
-- what comes of a value, if there is one
abbrev pub ◌>>=◌ : {A B : Type 0} → Option A → (A → Option B) → Option B
(Some x) >>= f = f x
None >>= f = None

-- What a function gave, seen by view, is what reading gives.
abbrev pub Gives : {X Y : Type 0} → (X → Y) → Option X → Option Y → Type 0
Gives view (Some x) read = read ≡ Some (view x)
Gives view None read = read ≡ None

-- ---- parts

-- eight bytes, the highest first
unfoldable pub number_at : List ℕ → Read ℕ
number_at bytes =
    if nat_lt (length bytes) 8 then None else Some (from_be_bytes w64 (take 8 bytes), drop 8 bytes)

-- a number below a limit
unfoldable pub narrow_at : ℕ → List ℕ → Read ℕ
narrow_at limit bytes = number_at bytes >>= λ n. if nat_lt n.0 limit then Some n else None

-- a flag, after its number
unfoldable pub flag_of_at : ℕ → List ℕ → Read Bool
flag_of_at n bytes = if n == 0 then Some (false, bytes) else if n == 1 then Some (true, bytes) else None

-- 0 or 1
unfoldable pub flag_at : List ℕ → Read Bool
flag_at bytes = number_at bytes >>= λ n. flag_of_at n.0 n.1

-- one value and then another
abbrev pub both_at : {A B : Type 0} → (List ℕ → Read A) → (List ℕ → Read B) → List ℕ → Read (A × B)
both_at first second bytes = first bytes >>= λ x. second x.1 >>= λ y. Some ((x.0, y.0), y.1)

-- what is made of a value
abbrev pub made_at : {A B : Type 0} → (A → B) → (List ℕ → Read A) → List ℕ → Read B
made_at make read bytes = read bytes >>= λ x. Some (make x.0, x.1)

-- nothing, or a value, after a number that says which
abbrev pub optional_of_at : {A : Type 0} → (List ℕ → Read A) → ℕ → List ℕ → Read (Option A)
optional_of_at read n bytes =
    if n == 0 then Some (None, bytes)
    else if n == 1 then made_at (λ x. Some x) read bytes
    else None

-- 0, or 1 and a value
abbrev pub optional_at : {A : Type 0} → (List ℕ → Read A) → List ℕ → Read (Option A)
optional_at read bytes = number_at bytes >>= λ n. optional_of_at read n.0 n.1

-- so many numbers
unfoldable pub several_at : ℕ → List ℕ → Read (List ℕ)
several_at zero bytes = Some ([], bytes)
several_at (suc count) bytes =
    number_at bytes >>= λ n. several_at count n.1 >>= λ others. Some (n.0 ∷ others.0, others.1)

-- ---- orders

-- sixteen processes
unfoldable pub members_at : List ℕ → Read Members
members_at bytes = made_at (λ processes. record { processes = processes }) (several_at 16) bytes

unfoldable pub seal_at : List ℕ → Read Order
seal_at bytes =
    made_at (λ p. Seal p.0 p.1.0 p.1.1) (both_at number_at (both_at number_at members_at)) bytes

unfoldable pub resume_at : List ℕ → Read Order
resume_at bytes = made_at (λ p. Resume p.0 p.1) (both_at number_at number_at) bytes

unfoldable pub poll_at : List ℕ → Read Order
poll_at bytes = made_at Poll number_at bytes

unfoldable pub switch_at : List ℕ → Read Order
switch_at bytes =
    made_at (λ p. Switch p.0 p.1.0 p.1.1.0 p.1.1.1)
    (both_at number_at (both_at number_at (both_at members_at number_at))) bytes

unfoldable pub open_at : List ℕ → Read Order
open_at bytes =
    made_at (λ p. Open p.0 p.1.0 p.1.1) (both_at number_at (both_at number_at members_at)) bytes

-- an order of this kind
unfoldable pub order_at : ℕ → List ℕ → Read Order
order_at kind bytes =
    if kind == 1 then seal_at bytes
    else if kind == 2 then resume_at bytes
    else if kind == 3 then poll_at bytes
    else if kind == 4 then switch_at bytes
    else if kind == 5 then open_at bytes
    else None

-- ---- what members report and mark

unfoldable pub acceptance_at : List ℕ → Read Acceptance
acceptance_at bytes =
    made_at (λ p. record { epoch = p.0; next = p.1 }) (both_at number_at members_at) bytes

-- what a member is at, after its code
unfoldable pub phase_of_at : ℕ → List ℕ → Read Phase
phase_of_at code bytes =
    if code == 0 then Some (Started, bytes)
    else if code == 1 then Some (Serving, bytes)
    else if code == 2 then made_at Sealed acceptance_at bytes
    else if code == 3 then made_at Switched acceptance_at bytes
    else None

unfoldable pub phase_at : List ℕ → Read Phase
phase_at bytes = number_at bytes >>= λ code. phase_of_at code.0 code.1

unfoldable pub standing_at : List ℕ → Read Standing
standing_at bytes =
    made_at (λ p. record { view = p.0; last = p.1.0; committed = p.1.1.0; idle = p.1.1.1 })
    (both_at (narrow_at (2 ^ 16)) (both_at number_at (both_at number_at flag_at))) bytes

unfoldable pub report_at : List ℕ → Read Report
report_at bytes =
    made_at (λ p. record {
      number = p.0;
      epoch = p.1.0;
      generation = p.1.1.0;
      phase = p.1.1.1.0;
      standing = p.1.1.1.1;
    }) (both_at number_at (both_at number_at (both_at number_at (both_at phase_at standing_at)))) bytes

unfoldable pub progress_at : List ℕ → Read Numbers
progress_at bytes =
    made_at (λ p. record { view = p.0; last = p.1.0; committed = p.1.1 })
    (both_at (narrow_at (2 ^ 16)) (both_at number_at number_at)) bytes

unfoldable pub marker_at : List ℕ → Read Marker
marker_at bytes =
    made_at (λ p. record { generation = p.0; epoch = p.1.0; numbers = p.1.1 })
    (both_at number_at (both_at number_at progress_at)) bytes

-- ---- a server's report

unfoldable pub version_at : List ℕ → Read Version
version_at bytes =
    made_at (λ p. record { major = p.0; minor = p.1.0; patch = p.1.1 })
    (both_at (narrow_at (2 ^ 16)) (both_at (narrow_at (2 ^ 16)) (narrow_at (2 ^ 16)))) bytes

unfoldable pub limit_at : List ℕ → Read (Option ℕ)
limit_at bytes = optional_at number_at bytes

unfoldable pub memory_at : List ℕ → Read Memory
memory_at bytes =
    made_at (λ p. record { items = p.0; estimate = p.1.0; limit = p.1.1 })
    (both_at number_at (both_at number_at limit_at)) bytes

unfoldable pub usage_at : List ℕ → Read Usage
usage_at bytes = made_at (λ p. record { used = p.0; limit = p.1 }) (both_at number_at number_at) bytes

unfoldable pub calls_at : List ℕ → Read Calls
calls_at bytes =
    made_at (λ p. record { clean_reads = p.0; dirty_reads = p.1.0; updates = p.1.1 })
    (both_at number_at (both_at number_at number_at)) bytes

unfoldable pub inbox_at : List ℕ → Read Inbox
inbox_at bytes = made_at (λ p. record { length = p.0; taken = p.1 }) (both_at number_at number_at) bytes

unfoldable pub lease_at : List ℕ → Read LeaseState
lease_at bytes = made_at (λ p. record { reign = p.0; left = p.1 }) (both_at number_at number_at) bytes

unfoldable pub maybe_lease_at : List ℕ → Read (Option LeaseState)
maybe_lease_at bytes = optional_at lease_at bytes

unfoldable pub refused_at : List ℕ → Read Refused
refused_at bytes = made_at (λ p. record { connections = p.0; stores = p.1 }) (both_at number_at number_at) bytes

unfoldable pub server_at : List ℕ → Read ServerReport
server_at bytes =
    made_at (λ p. record {
      id = p.0;
      servers = p.1.0;
      version = p.1.1.0;
      start = p.1.1.1.0;
      uptime = p.1.1.1.1.0;
      view = p.1.1.1.1.1.0;
      stalled = p.1.1.1.1.1.1.0;
      last = p.1.1.1.1.1.1.1.0;
      committed = p.1.1.1.1.1.1.1.1.0;
      memory = p.1.1.1.1.1.1.1.1.1.0;
      connections = p.1.1.1.1.1.1.1.1.1.1.0;
      seats = p.1.1.1.1.1.1.1.1.1.1.1.0;
      calls = p.1.1.1.1.1.1.1.1.1.1.1.1.0;
      questions = p.1.1.1.1.1.1.1.1.1.1.1.1.1.0;
      inbox = p.1.1.1.1.1.1.1.1.1.1.1.1.1.1.0;
      lease = p.1.1.1.1.1.1.1.1.1.1.1.1.1.1.1.0;
      refused = p.1.1.1.1.1.1.1.1.1.1.1.1.1.1.1.1;
    })
    (both_at (narrow_at (2 ^ 8)) (both_at (narrow_at (2 ^ 8)) (both_at version_at (both_at number_at
    (both_at number_at (both_at (narrow_at (2 ^ 16)) (both_at (narrow_at (2 ^ 16)) (both_at number_at
    (both_at number_at (both_at memory_at (both_at usage_at (both_at usage_at (both_at calls_at
    (both_at number_at (both_at inbox_at (both_at maybe_lease_at refused_at)))))))))))))))) bytes

-- ---- messages

-- a message of this kind
unfoldable pub of_kind_at : ℕ → List ℕ → Read ControlMessage
of_kind_at kind bytes =
    if kind == 6 then made_at messages.Report report_at bytes
    else if kind == 7 then made_at messages.Marker marker_at bytes
    else if kind == 8 then Some (messages.StatusQuestion, bytes)
    else if kind == 9 then made_at messages.Status server_at bytes
    else made_at messages.Order (order_at kind) bytes

-- the message at the front
unfoldable pub message_at : List ℕ → Read ControlMessage
message_at bytes = number_at bytes >>= λ kind. of_kind_at kind.0 kind.1

-- the message that all of the bytes spell
unfoldable pub message_in : List ℕ → Option ControlMessage
message_in bytes = message_at bytes >>= λ m. if length m.1 == 0 then Some m.0 else None
