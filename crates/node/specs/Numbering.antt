-- Numbering and forwarding: how an update gets its entry, how entries go down the chain, and how they are acknowledged.
use Rattle.std.specs.Prelude.{ℕ, ◌+◌, ◌-◌, max, Bool, not, ◌&&◌, ◌||◌, ◌==◌, nat_lt, nat_le, List, [], ◌∷◌, ◌++◌, take}
use Rattle.std.specs.Prelude.{find, slice_set, Option, Some, None, if◌then◌else◌}
use Rattle.table.specs.Operations.{is_update}
use Rattle.table.specs.Decisions.{decision}
use Rattle.table.specs.Items.{Item}
use Rattle.table.specs.declared.operations.Call.{Call}
use Rattle.table.specs.declared.operations.Reply.{Reply}
use Rattle.table.specs.declared.operations.Target.{Target}
use Rattle.table.specs.declared.operations.Target.TheVariants.{One, All}
use Rattle.versions.specs.Entries.{LogEntry}
use Rattle.versions.specs.Stores.{StoreState, last_number, value_at, entries_after, pushed, acked_to}
use Rattle.node.specs.declared.servers.OpenUpdate.{OpenUpdate}
use Rattle.node.specs.declared.messages.Body.TheVariants.{Op, Forward, Ack}
use Rattle.node.specs.declared.messages.Output.{Output}
use Rattle.node.specs.Views.{is_that}
use Rattle.node.specs.Servers.{ServerState, RuleResult, most, seen_of, head_of, is_head, is_tail, predecessor_of, successor_of}
use Rattle.node.specs.Servers.{silent}
use Rattle.node.specs.Servers.{putting, message_to, reply_at, without_first}

-- acknowledgement

-- the own call of this id without a reply, if there is one
abbrev pub open_update : List OpenUpdate → ℕ → Option OpenUpdate
open_update pend id = find (λ u. u.id == id) pend

-- without the call of this id
abbrev pub without_update : List OpenUpdate → ℕ → List OpenUpdate
without_update pend id = without_first (λ u. u.id == id) pend

-- the own calls without a reply that are left after this entry is acknowledged, at the server of this id
abbrev pub left_open_by : ℕ → List OpenUpdate → LogEntry → List OpenUpdate
left_open_by id pend e = if e.origin == id then without_update pend e.id else pend

-- the same after these entries
unfoldable pub left_open : ℕ → List OpenUpdate → List LogEntry → List OpenUpdate
left_open id pend [] = pend
left_open id pend (e ∷ es) = left_open id (left_open_by id pend e) es

-- the port of an own call gets its entry's reply
abbrev pub replied : Reply → Option OpenUpdate → List Output
replied reply None = []
replied reply (Some u) = reply_at u.port reply

-- an entry that is acknowledged: if its call is an own one without a reply, that call is answered
abbrev pub reply_to : ℕ → List OpenUpdate → LogEntry → List Output
reply_to id pend e = if e.origin == id then replied e.reply (open_update pend e.id) else []

-- the same of these entries, in order
unfoldable pub replies : ℕ → List OpenUpdate → List LogEntry → List Output
replies id pend [] = []
replies id pend (e ∷ es) = reply_to id pend e ++ replies id (left_open_by id pend e) es

-- the entries above the commit number, up to n
abbrev pub newly_acked : ServerState → ℕ → List LogEntry
newly_acked s n = take (n - s.store.acked) (entries_after s.store s.store.acked)

-- Rise to n, a number above the acknowledged one: it becomes the commit number, the own calls among the entries
-- newly passed are answered in order, and then the predecessor is told (CRAQ, "Chain Replication with Apportioned
-- Queries": acknowledgements go back up the chain)
unfoldable pub risen : ServerState → ℕ → ServerState
risen s n = record s { store = acked_to s.store n; pend = left_open s.id s.pend (newly_acked s n) }

-- the server risen to n, and what it puts out
abbrev pub rise : ServerState → ℕ → RuleResult
rise s n =
    record { state = risen s n; outputs = replies s.id s.pend (newly_acked s n) ++ message_to s (predecessor_of s) (Ack n) }

-- appending

-- the entry is the last one from now on, and its id counts among those seen of its origin
unfoldable pub appended : ServerState → LogEntry → ServerState
appended s e = record s { store = pushed s.store e; seen = slice_set s.seen e.origin (max (seen_of s e.origin) e.id) }

-- an entry that was just appended: at the tail it is acknowledged, otherwise it goes on to the successor
-- (CRAQ, "Chain Replication")
unfoldable pub passed_on : ServerState → LogEntry → RuleResult
passed_on s e = if is_tail s then rise s (last_number s.store) else putting s (message_to s (successor_of s) (Forward e))

-- taking

-- the item that an operation on this target is decided on: the newest version, dirty or not
abbrev pub newest : StoreState → Target → Option Item
newest store (One key) = value_at store key (last_number store)
newest store All = None

-- the entry that the head makes of an update: decided with the next number (that a refused update takes a number and
-- travels as an entry, and that a conditional one is decided on the newest version, are this project's rules)
abbrev pub entry_of : ServerState → ℕ → ℕ → Call → LogEntry
entry_of s origin id call =
    let decided = decision (newest s.store call.target) call.op (last_number s.store + 1) in
    record {
      number = last_number s.store + 1;
      origin = origin;
      id = id;
      target = call.target;
      reply = decided.0;
      change = decided.1;
    }

-- the update is the origin's next one, and a number is left for it: an update is taken once (this project's rule)
abbrev pub is_taken : ServerState → ℕ → ℕ → Bool
is_taken s origin id = id == seen_of s origin + 1 && nat_lt (last_number s.store) most

-- Take without sending and without rising: the entry of the update is appended, if it is the origin's next one
unfoldable pub taken : ServerState → ℕ → ℕ → Call → ServerState
taken s origin id call = if is_taken s origin id then appended s (entry_of s origin id call) else s

-- Take, only at the head: the same, and the entry is passed on
unfoldable pub take_update : ServerState → ℕ → ℕ → Call → RuleResult
take_update s origin id call =
    if is_taken s origin id then passed_on (appended s (entry_of s origin id call)) (entry_of s origin id call)
    else silent s

-- the inputs and messages of updates

-- an own update call enters the open ones with the next id
unfoldable pub entered : ServerState → ℕ → Call → ServerState
entered s port call =
    record s { pend = s.pend ++ record { id = s.next_id; port = port; call = call } ∷ []; next_id = s.next_id + 1 }

-- an own update call has an id left, and at the head a number too
abbrev pub is_room_for_update : ServerState → Bool
is_room_for_update s = nat_lt s.next_id most && (not (is_head s) || nat_lt (last_number s.store) most)

-- an own update call: at the head it is taken, elsewhere it goes to the head
abbrev pub called : ServerState → ℕ → Call → RuleResult
called s id call =
    if is_head s then take_update s s.id id call else putting s (message_to s (head_of s) (Op id call))

-- an own update call enters the open ones first; no effect if no id is left, or at the head no number
abbrev pub update : ServerState → ℕ → Call → RuleResult
update s port call = if is_room_for_update s then called (entered s port call) s.next_id call else silent s

-- `Op` from server i: at the head an update is taken with i as its origin
abbrev pub receive_op : ServerState → ℕ → ℕ → Call → RuleResult
receive_op s i id call = if is_head s && is_update call.op then take_update s i id call else silent s

-- `Forward` from server i: from the predecessor the entry with the next number is appended and passed on
abbrev pub receive_forward : ServerState → ℕ → LogEntry → RuleResult
receive_forward s i e =
    if is_that (predecessor_of s) i && e.number == last_number s.store + 1 then passed_on (appended s e) e else silent s

-- `Ack` from server i: from the successor, with a number above the acknowledged one and not above the last, this server
-- rises to it
abbrev pub receive_ack : ServerState → ℕ → ℕ → RuleResult
receive_ack s i n =
    if is_that (successor_of s) i && nat_lt s.store.acked n && nat_le n (last_number s.store) then rise s n else silent s
