-- How many ids and asks a step takes: one if it takes in an own call, and otherwise none.
use Rattle.std.proofs.Common.{ℕ, ◌+◌, ◌≤◌, List, [], ◌∷◌, None, Some, arith, ap}
use Rattle.node.specs.declared.messages.Input.TheVariants.{Call as Called, From, Gone}
use Rattle.node.specs.Servers.{ServerState, RuleResult}
use Rattle.node.specs.Numbering.{appended, entered}
use Rattle.node.specs.Reading.{asked}
use Rattle.node.specs.Joining.{widened}
use Rattle.node.specs.Steps.{trimmed}
use Rattle.node.specs.Actions.{Action, Widen, Append, Reach, Settle, Send, Finish, Trim, Enter, Ask, Show, act, does}
use Rattle.node.specs.Actions.{Cause, left, Guard, AreGuarded, IsDone}

-- an own call takes an id or an ask
abbrev pub takes_of : Cause → ℕ
takes_of None = 0
takes_of (Some (Called port call)) = 1
takes_of (Some (From i m)) = 0
takes_of (Some (Gone j)) = 0

less_left : (c : Cause) → takes_of (left c) ≤ takes_of c
less_left None = omega arith
less_left (Some (Called port call)) = omega arith
less_left (Some (From i m)) = omega arith
less_left (Some (Gone j)) = omega arith

abbrev Paces : Cause → ServerState → ServerState → Type 0
Paces c s t = (t.next_id + takes_of (left c) ≤ s.next_id + takes_of c)
    × (t.next_ask + takes_of (left c) ≤ s.next_ask + takes_of c)

act_pace : (c : Cause) (s : ServerState) (a : Action) → Guard c s a → Paces c s (act s a).state
unfolding act widened appended entered asked trimmed
act_pace c s (Widen v) g = (omega (arith, less_left c), omega (arith, less_left c))
act_pace c s (Append e) g = (omega (arith, less_left c), omega (arith, less_left c))
act_pace c s (Reach n) g = (omega (arith, less_left c), omega (arith, less_left c))
act_pace c s (Settle e) g = (omega (arith, less_left c), omega (arith, less_left c))
act_pace c s (Send j body) g = (omega (arith, less_left c), omega (arith, less_left c))
act_pace c s (Finish r n) g = (omega (arith, less_left c), omega (arith, less_left c))
act_pace c s Trim g = (omega (arith, less_left c), omega (arith, less_left c))
act_pace c s (Enter port call) g = rw (g.0) (omega arith, omega arith)
act_pace c s (Ask port key) g = rw (g.1) (omega arith, omega arith)
act_pace c s (Show port key) g = (omega (arith, less_left c), omega (arith, less_left c))

pace_all : (actions : List Action) (c : Cause) (s : ServerState)
    → AreGuarded c s actions
    → ((does s actions).state.next_id ≤ s.next_id + takes_of c)
    × ((does s actions).state.next_ask ≤ s.next_ask + takes_of c)
unfolding does
pace_all [] c s g = (omega arith, omega arith)
pace_all (a ∷ later) c s g =
    let one = act_pace c s a g.1 in
    let all = pace_all later (left c) (act s a).state g.2 in
    (omega (arith, one.0, all.0), omega (arith, one.1, all.1))

-- what a done step takes
pub pace : (c : Cause) (s : ServerState) (o : RuleResult)
    → IsDone c s o
    → (o.state.next_id ≤ s.next_id + takes_of c) × (o.state.next_ask ≤ s.next_ask + takes_of c)
pace c s o d = let all = pace_all d.actions c s d.guarded in (
  omega (arith, all.0, ap (λ (x : RuleResult). x.state.next_id) d.same),
  omega (arith, all.1, ap (λ (x : RuleResult). x.state.next_ask) d.same),
)
