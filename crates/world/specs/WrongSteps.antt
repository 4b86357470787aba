-- Wrong steps of a server. Each is `step`, but for one thing.
use Rattle.std.specs.Prelude.{ℕ, Bool, true, false, not, ◌&&◌, ◌==◌, nat_lt, filter, if◌then◌else◌}
use Rattle.versions.specs.Stores.{last_number, entries_after}
use Rattle.node.specs.declared.messages.Body.{Body}
use Rattle.node.specs.declared.messages.Body.TheVariants.{Op, Forward, Ack, Query, Answer}
use Rattle.node.specs.declared.messages.Peer.{Peer}
use Rattle.node.specs.declared.messages.Input.{Input}
use Rattle.node.specs.declared.messages.Input.TheVariants.{Call as Called, From, Gone}
use Rattle.node.specs.declared.messages.Output.{Output}
use Rattle.node.specs.declared.messages.Output.TheVariants.{To, Reply as Replied}
use Rattle.node.specs.Views.{View, adds, single}
use Rattle.node.specs.Servers.{ServerState, RuleResult, silent, putting, and_then}
use Rattle.node.specs.Joining.{widened, promoted_to_head, promoted_to_tail, forwarded, caught_up, acked_to_predecessor}
use Rattle.node.specs.Joining.{asks_renewed}
use Rattle.node.specs.Steps.{call, received, is_heard, trimmed, step}

-- ---- a server that never forwards an entry

-- the body is an entry on its way down the chain
abbrev pub is_forward : Body → Bool
is_forward (Op id call) = false
is_forward (Forward e) = true
is_forward (Ack n) = false
is_forward (Query ask key) = false
is_forward (Answer ask n) = false

-- so is the output
abbrev pub is_forwarding : Output → Bool
is_forwarding (To to peer) = is_forward peer.body
is_forwarding (Replied port reply) = false

-- wrong: what `step` puts out, but for the entries
abbrev pub never_forwarding : ServerState → Input → RuleResult
never_forwarding s input =
    record { state = (step s input).state; outputs = filter (λ o. not (is_forwarding o)) (step s input).outputs }

-- ---- servers that join a view in another way

-- What a server does in the third and in the fourth step of joining a view.
pub record Joining : Type 0 where
  pub at_tail : ServerState → RuleResult
  pub for_successor : View → ℕ → ServerState → RuleResult

-- what `step` does there
abbrev pub as_ever : Joining
as_ever = record { at_tail = promoted_to_tail; for_successor = caught_up }

-- the steps of joining after the first
abbrev pub rejoined_by : Joining → View → ℕ → ℕ → ServerState → RuleResult
rejoined_by rules old last_before acked_before s =
    let third = and_then (promoted_to_head old s) rules.at_tail in
    let fourth = and_then third (rules.for_successor old last_before) in
    and_then (and_then fourth (acked_to_predecessor old acked_before)) (asks_renewed old)

-- join a view
abbrev pub join_by : Joining → ServerState → View → RuleResult
join_by rules s v =
    if not (adds s.view v) then silent s
    else rejoined_by rules s.view (last_number s.store) s.store.acked (widened s v)

-- the notice that server j has failed
abbrev pub gone_by : Joining → ServerState → ℕ → RuleResult
gone_by rules s j = if nat_lt j s.count && not (j == s.id) then join_by rules s (single j) else silent s

-- a message from server i
abbrev pub from_peer_by : Joining → ServerState → ℕ → Peer → RuleResult
from_peer_by rules s i peer =
    if is_heard s i peer.view then and_then (join_by rules s peer.view) (λ t. received t i peer.body)
    else silent s

-- what an input does, but for the floor
abbrev pub taken_in_by : Joining → ServerState → Input → RuleResult
taken_in_by rules s (Called port asked) = call s port asked
taken_in_by rules s (From i peer) = from_peer_by rules s i peer
taken_in_by rules s (Gone j) = gone_by rules s j

-- one step of a server that joins so
abbrev pub step_by : Joining → ServerState → Input → RuleResult
step_by rules s input =
    record { state = trimmed (taken_in_by rules s input).state; outputs = (taken_in_by rules s input).outputs }

-- wrong: a new tail keeps silent, and acknowledges nothing of what it holds
abbrev pub silent_at_tail : ServerState → Input → RuleResult
silent_at_tail = step_by (record as_ever { at_tail = silent })

-- a successor gets what the join appended, and not what it misses
abbrev pub only_appended : View → ℕ → ServerState → RuleResult
only_appended old last_before s = putting s (forwarded s (entries_after s.store last_before))

-- wrong: so a new successor is not caught up
abbrev pub not_caught_up : ServerState → Input → RuleResult
not_caught_up = step_by (record as_ever { for_successor = only_appended })
