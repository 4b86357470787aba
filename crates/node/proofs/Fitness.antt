-- What an action puts out may be sent, and handed in at another server; and so what a step does.
use Rattle.std.proofs.Common.{◌≡◌, ℕ, ◌+◌, List, [], ◌∷◌, ◌++◌, Some, sym, subst, arith}
use Rattle.std.proofs.lemmas.Option.{same_Some}
use Rattle.node.specs.declared.messages.Body.{Body}
use Rattle.node.specs.declared.messages.Body.TheVariants.{Op, Forward, Ack, Query, Answer}
use Rattle.node.specs.declared.messages.Input.{Input}
use Rattle.node.specs.declared.messages.Input.TheVariants.{From}
use Rattle.node.specs.declared.messages.Output.{Output}
use Rattle.node.specs.Servers.{ServerState, RuleResult}
use Rattle.node.specs.Steps.{taken_in}
use Rattle.node.specs.Lawful.{IsBody, IsInput, HoldsEntry, IsSendable, IsSound, IsLawful, AreFit}
use Rattle.node.specs.Actions.{Action, Widen, Append, Reach, Settle, Send, Finish, Trim, Enter, Ask, Show, act, does}
use Rattle.node.specs.Actions.{Cause, left, MaySend, Guard, AreGuarded}
use Rattle.node.proofs.OpenLists.{update_above}
use Rattle.node.proofs.StoreChanges.{log_entry}
use Rattle.node.proofs.Settling.{reply_all}
use Rattle.node.proofs.DoneActions.{came_left}
use Rattle.node.proofs.DoneSteps.{rule_taken_in}

-- if the messages of two lists may be sent, so may those of the joined list
pub fit_append : (xs ys : List Output) → AreFit xs → AreFit ys → AreFit (xs ++ ys)
fit_append [] ys h g = g
fit_append (x ∷ xs) ys h g = (h.0, fit_append xs ys h.1 g)

-- what may be sent may be handed in
sendable_fits : (body : Body) → IsSendable body → IsBody body
sendable_fits (Op id made) h = h.1
sendable_fits (Forward e) h = tt
sendable_fits (Ack n) h = tt
sendable_fits (Query ask key) h = h
sendable_fits (Answer ask n) h = tt

-- the input is one that may be given
abbrev IsGiven : Cause → Type 0
IsGiven c = (input : Input) → c ≡ Some input → IsInput input

sendable : (c : Cause) (s : ServerState) (j : ℕ) (body : Body)
    → IsSound s
    → IsGiven c
    → MaySend c s j body
    → IsSendable body
sendable c s j (Op id call) h given g = (omega (arith, update_above 0 s.pend s.next_id _ h.updates g.5), g.3, g.2)
sendable c s j (Forward e) h given g = log_entry s.store.floor g.1.0 s.store.rest e h.store.log g.1.1
sendable c s j (Ack n) h given g = tt
sendable c s j (Query ask key) h given g = g.2
sendable c s j (Answer ask n) h given g = subst (λ b. IsBody b) g.6 (given (From j g.3) g.5)

fit_act : (c : Cause) (s : ServerState) (a : Action) → IsSound s → IsGiven c → Guard c s a → AreFit (act s a).outputs
unfolding act
fit_act c s (Widen v) h given g = tt
fit_act c s (Append e) h given g = tt
fit_act c s (Reach n) h given g = tt
fit_act c s (Settle e) h given g = reply_all (λ os. AreFit os) s.id s.pend e tt (λ port. (tt, tt))
fit_act c s (Send j body) h given g = (let may = sendable c s j body h given g.0 in (may, sendable_fits body may), tt)
fit_act c s (Finish r n) h given g = (tt, tt)
fit_act c s Trim h given g = tt
fit_act c s (Enter port call) h given g = tt
fit_act c s (Ask port key) h given g = tt
fit_act c s (Show port key) h given g = (tt, tt)

fit_does : (actions : List Action) (c : Cause) (s : ServerState)
    → IsGiven c
    → AreGuarded c s actions
    → AreFit (does s actions).outputs
unfolding does
fit_does [] c s given g = tt
fit_does (a ∷ later) c s given g =
    fit_append (act s a).outputs _ (fit_act c s a g.0 given g.1)
    (fit_does later (left c) (act s a).state (λ input e. given input (came_left c input e)) g.2)

-- what a step of a lawful server puts out
pub fit_taken_in : (s : ServerState) (input : Input)
    → IsInput input
    → HoldsEntry input
    → IsLawful s
    → AreFit (taken_in s input).outputs
fit_taken_in s input fit valid h =
    let d = (rule_taken_in s input h.sound h.settled fit valid).done in
    subst (λ (o : RuleResult). AreFit o.outputs) (sym d.same)
    (fit_does d.actions (Some input) s (λ x e. subst (λ y. IsInput y) (same_Some input x e) fit) d.guarded)
