-- One server's step: what each input does.
use Rattle.std.specs.Prelude.{ℕ, min, Bool, not, ◌&&◌, ◌==◌, nat_lt, List, [], ◌∷◌, if◌then◌else◌}
use Rattle.table.specs.Operations.{is_update}
use Rattle.table.specs.declared.operations.Call.{Call}
use Rattle.versions.specs.Stores.{dropped_to}
use Rattle.node.specs.declared.servers.OpenRead.{OpenRead}
use Rattle.node.specs.declared.messages.Body.{Body}
use Rattle.node.specs.declared.messages.Body.TheVariants.{Op, Forward, Ack, Query, Answer}
use Rattle.node.specs.declared.messages.Peer.{Peer}
use Rattle.node.specs.declared.messages.Input.{Input}
use Rattle.node.specs.declared.messages.Input.TheVariants.{Call as Called, From, Gone}
use Rattle.node.specs.Views.{View, has, single, is_below}
use Rattle.node.specs.Servers.{ServerState, RuleResult, silent, and_then}
use Rattle.node.specs.Numbering.{update, receive_op, receive_forward, receive_ack}
use Rattle.node.specs.Reading.{read_of, receive_query, receive_answer}
use Rattle.node.specs.Joining.{join}

-- an own call
abbrev pub call : ServerState → ℕ → Call → RuleResult
call s port asked = if is_update asked.op then update s port asked else read_of s port asked.target

-- the notice that server j has failed: it is joined, unless j is this server or none of the chain
abbrev pub gone : ServerState → ℕ → RuleResult
gone s j = if nat_lt j s.count && not (j == s.id) then join s (single j) else silent s

-- what a message's body does, whose view was joined. A body that doesn't fit has no effect.
abbrev pub receive : ServerState → ℕ → Body → RuleResult
receive s i (Op id asked) = receive_op s i id asked
receive s i (Forward e) = receive_forward s i e
receive s i (Ack n) = receive_ack s i n
receive s i (Query ask key) = receive_query s i ask
receive s i (Answer ask n) = receive_answer s i ask n

-- nothing is received of a server that is known to have failed
abbrev pub received : ServerState → ℕ → Body → RuleResult
received s i body = if has s.view i then silent s else receive s i body

-- the sender is another server of the chain, and the view names neither this server nor one that isn't of the chain
-- (this project's rule)
abbrev pub is_heard : ServerState → ℕ → View → Bool
is_heard s i v = nat_lt i s.count && not (i == s.id) && is_below v s.count && not (has v s.id)

-- a message from server i: its view is joined first, and then it is judged whether its sender has failed (this
-- project's rule)
abbrev pub from_peer : ServerState → ℕ → Peer → RuleResult
from_peer s i peer =
    if is_heard s i peer.view then and_then (join s peer.view) (λ t. received t i peer.body) else silent s

-- what an input does, but for the floor
abbrev pub taken_in : ServerState → Input → RuleResult
taken_in s (Called port asked) = call s port asked
taken_in s (From i peer) = from_peer s i peer
taken_in s (Gone j) = gone s j

-- the least of the commit number and the lower bounds of all open reads
abbrev pub least_open : ℕ → List OpenRead → ℕ
least_open acked [] = acked
least_open acked (r ∷ rs) = min r.lower_bound (least_open acked rs)

-- versions below each open read's lower bound and the commit number are folded into one table (this project's
-- rule)
unfoldable pub trimmed : ServerState → ServerState
trimmed s = record s { store = dropped_to s.store (least_open s.store.acked s.asks) }

-- One step: what the input does, and then the floor.
abbrev pub step : ServerState → Input → RuleResult
step s input = record { state = trimmed (taken_in s input).state; outputs = (taken_in s input).outputs }
