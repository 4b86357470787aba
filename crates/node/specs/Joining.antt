-- Joining a view: what a server does when it learns of failed servers, in six steps (CRAQ,
-- "Failure Recovery in CRAQ";
-- that a new head takes its own open calls, and that views come with messages, are this project's rules).
-- `old` is the server's view before the join.
use Rattle.std.specs.Prelude.{ℕ, not, ◌&&◌, ◌==◌, nat_lt, List, [], ◌∷◌, ◌++◌, Option, option_map, slice_get}
use Rattle.std.specs.Prelude.{if◌then◌else◌}
use Rattle.table.specs.declared.operations.Call.{Call}
use Rattle.table.specs.declared.operations.Reply.TheVariants.{Value}
use Rattle.versions.specs.Entries.{LogEntry}
use Rattle.versions.specs.Stores.{last_number, value_at, entries_after}
use Rattle.node.specs.declared.servers.OpenUpdate.{OpenUpdate}
use Rattle.node.specs.declared.servers.OpenRead.{OpenRead}
use Rattle.node.specs.declared.messages.Body.TheVariants.{Op, Forward, Ack, Query}
use Rattle.node.specs.declared.messages.Output.{Output}
use Rattle.node.specs.Views.{View, union, adds, head, tail, predecessor, successor, is_that, is_same}
use Rattle.node.specs.Servers.{ServerState, RuleResult, head_of, tail_of, is_head, is_tail, predecessor_of, successor_of, silent}
use Rattle.node.specs.Servers.{putting, and_then, message_to, reply_at}
use Rattle.node.specs.Numbering.{taken, rise}

-- First: the view becomes the union.
unfoldable pub widened : ServerState → View → ServerState
widened s v = record s { view = union s.view v }

-- the own open call at this place: its id and what it asks
abbrev pub call_at : List OpenUpdate → ℕ → Option (ℕ × Call)
call_at us i = option_map (λ u. (u.id, u.call)) (slice_get us i)

-- each of these calls is taken in order, as this server's own, without sending and without rising
unfoldable pub taken_all : ServerState → List OpenUpdate → ServerState
taken_all s [] = s
taken_all s (u ∷ us) = taken_all (taken s s.id u.id u.call) us

-- each of these calls goes to the head, in order
unfoldable pub sent_again : ServerState → List OpenUpdate → List Output
sent_again s [] = []
sent_again s (u ∷ us) = message_to s (head_of s) (Op u.id u.call) ++ sent_again s us

-- Second: a new head takes its own open calls; any other server sends them to the head, if the head changed.
unfoldable pub promoted_to_head : View → ServerState → RuleResult
promoted_to_head old s =
    if is_head s then (if is_that (head old s.count) s.id then silent s else silent (taken_all s s.pend))
    else (if is_same (head old s.count) (head_of s) then silent s else putting s (sent_again s s.pend))

-- Third: the tail acknowledges all that it holds.
unfoldable pub promoted_to_tail : ServerState → RuleResult
promoted_to_tail s =
    if is_tail s && nat_lt s.store.acked (last_number s.store) then rise s (last_number s.store) else silent s

-- each of these entries goes to the successor, in order
unfoldable pub forwarded : ServerState → List LogEntry → List Output
forwarded s [] = []
forwarded s (e ∷ es) = message_to s (successor_of s) (Forward e) ++ forwarded s es

-- the number above which the successor needs this server's entries: the acknowledged one if the successor changed,
-- and otherwise the last one before the join
abbrev pub needed_above : View → ℕ → ServerState → ℕ
needed_above old last_before s = if is_same (successor old s.count s.id) (successor_of s) then last_before else s.store.acked

-- Fourth: a successor gets the entries that it needs.
unfoldable pub caught_up : View → ℕ → ServerState → RuleResult
caught_up old last_before s = putting s (forwarded s (entries_after s.store (needed_above old last_before s)))

-- Fifth: a new predecessor gets the commit number, unless the third step raised it, and so sent it already.
unfoldable pub acked_to_predecessor : View → ℕ → ServerState → RuleResult
acked_to_predecessor old acked_before s =
    if not (is_same (predecessor old s.id) (predecessor_of s)) && s.store.acked == acked_before
    then putting s (message_to s (predecessor_of s) (Ack s.store.acked)) else silent s

-- each of these reads is answered with its key's newest version
unfoldable pub replies_to : ServerState → List OpenRead → List Output
replies_to s [] = []
replies_to s (r ∷ rs) = reply_at r.port (Value (value_at s.store r.key (last_number s.store))) ++ replies_to s rs

-- each of these reads asks the tail again
unfoldable pub asked_again : ServerState → List OpenRead → List Output
asked_again s [] = []
asked_again s (r ∷ rs) = message_to s (tail_of s) (Query r.ask r.key) ++ asked_again s rs

-- Sixth: if the tail changed, the new tail answers and closes its open reads; any other server asks the tail again.
unfoldable pub asks_renewed : View → ServerState → RuleResult
asks_renewed old s =
    if is_same (tail old s.count) (tail_of s) then silent s
    else (if is_tail s then record { state = record s { asks = [] }; outputs = replies_to s s.asks } else putting s
    (asked_again s s.asks))

-- the steps after the first, of a server whose view was widened
abbrev pub rejoined : View → ℕ → ℕ → ServerState → RuleResult
rejoined old last_before acked_before s =
    and_then (and_then (and_then (and_then (promoted_to_head old s) promoted_to_tail) (caught_up old last_before))
    (acked_to_predecessor old acked_before)) (asks_renewed old)

-- Join a view: if it adds nothing, nothing happens; otherwise the six steps, in order.
abbrev pub join : ServerState → View → RuleResult
join s v = if not (adds s.view v) then silent s else rejoined s.view (last_number s.store) s.store.acked (widened s v)
