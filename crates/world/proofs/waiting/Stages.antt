-- A call that is with its server is one of its open updates or reads, at its connection's port.
use Rattle.std.proofs.Common.{◌≡◌, ◌≢◌, ℕ, zero, suc, ◌<◌, true, List, [], ◌∷◌, length, Some, refl, sym, ap, subst, ◌∙◌}
use Rattle.std.proofs.Common.{◌⊎◌, inl, inr}
use Rattle.std.specs.Prelude.{slice_get}
use Rattle.std.proofs.lemmas.Option.{same_Some}
use Rattle.table.specs.declared.operations.Reply.{Reply}
use Rattle.node.specs.declared.messages.Input.{Input}
use Rattle.node.specs.declared.messages.Output.{Output}
use Rattle.node.specs.declared.messages.Output.TheVariants.{To, Reply as Answered}
use Rattle.node.specs.Servers.{RuleResult}
use Rattle.node.specs.Steps.{step}
use Rattle.world.specs.declared.connections.Stage.{Stage}
use Rattle.world.specs.declared.connections.Stage.TheVariants.{Idle, Begun, Asked, Replied}
use Rattle.world.specs.Connections.{Connection, open_call, may_have, asked, replied}
use Rattle.world.specs.Worlds.{World, server, takes, put, put_all, with_server, with_link, with_connection}
use Rattle.node.proofs.Lists.{In}
use Rattle.world.proofs.trace.WorldLaws.{Answers, changed_one, connection-before_all, answers_one, server-put_all}
use Rattle.world.proofs.trace.WorldLaws.{server_same, server_apart}
use Rattle.world.proofs.waiting.CallsOpened.{IsOpenAt}

-- each call that is with its server waits there
abbrev pub AllOpen : World → Type 0
AllOpen w =
    (c : ℕ) (k : Connection) → slice_get w.connections c ≡ Some k → k.stage ≡ Asked → IsOpenAt (server w k.home) c

-- these outputs have a reply that the connection's open call may have
abbrev pub Fits : ℕ → Connection → List Output → Type 0
Fits c k os = (reply : Reply) × In (Answered c reply) os × (may_have (open_call k) reply ≡ true)

-- ---- what outputs make of a stage

-- a connection whose call is with its server after outputs got no reply by them
pub still_asked : (os : List Output) (c : ℕ) (k k' : Connection) → Answers os c k k' → k'.stage ≡ Asked → k' ≡ k
still_asked os c k k' (inl e) a = e
still_asked os c k k' (inr r) a =
    absurd (let e : Replied r.0 ≡ Asked = sym (ap (λ (x : Connection). x.stage) r.4) ∙ a in cc)

got_reply : (stage : Stage) (reply : Reply) (k : Connection)
    → k.stage ≡ stage
    → may_have (open_call k) reply ≡ true
    → (replied stage reply k).stage ≡ Asked
    → ⊥
got_reply Idle reply k e may a = let g : Idle ≡ Asked = sym e ∙ a in cc
got_reply Begun reply k e may a = let g : Begun ≡ Asked = sym e ∙ a in cc
got_reply Asked reply k e may a = let g : Replied reply ≡ Asked = rw may at a in cc
got_reply (Replied first) reply k e may a = let g : Replied first ≡ Asked = sym e ∙ a in cc

same_open : (os : List Output) (c : ℕ) (k k' : Connection) → Answers os c k k' → open_call k' ≡ open_call k
same_open os c k k' (inl e) = ap (λ x. open_call x) e
same_open os c k k' (inr r) = ap (λ x. open_call x) r.4

-- who gets such a reply isn't with its server any more
pub fitting : (w : World) (i : ℕ) (os : List Output) (c : ℕ) (k : Connection)
    → slice_get w.connections c ≡ Some k
    → Fits c k os
    → (k' : Connection) → slice_get (put_all w i os).connections c ≡ Some k' → k'.stage ≡ Asked → ⊥
unfolding put_all with_link with_connection
fitting w i [] c k here fits k' there a = absurd (let e = fits.1.1 in cc)
fitting w i (To j m ∷ os) c k here (reply, (zero, e), may) k' there a = absurd cc
fitting w i (To j m ∷ os) c k here (reply, (suc n, e), may) k' there a =
    fitting (put w i (To j m)) i os c k here (reply, (n, e), may) k' there a
fitting w i (Answered d r ∷ os) c k here (reply, (zero, e), may) k' there a =
    let one = changed_one w.connections d (λ x. replied x.stage r x) c k here in
    let before = connection-before_all (put w i (Answered d r)) i os c k' there in
    let same : before.0 ≡ one.0 = same_Some before.0 one.0 (sym before.1 ∙ one.1) in
    let is : k' ≡ one.0 = still_asked os c before.0 k' before.2 a ∙ same in
    let port : d ≡ c = cc in
    let first : r ≡ reply = cc in
    elim one.2 [
      | inl it ↦ got_reply k.stage reply k refl may
          (ap (λ x. (replied k.stage x k).stage) (sym first) ∙ ap (λ (x : Connection). x.stage) (sym it.1 ∙ sym is) ∙ a)
      | inr other ↦ other.0 (sym port)
    ]
fitting w i (Answered d r ∷ os) c k here (reply, (suc n, e), may) k' there a =
    let one = changed_one w.connections d (λ x. replied x.stage r x) c k here in
    fitting (put w i (Answered d r)) i os c one.0 one.1 (
      reply,
      (n, e),
      ap (λ o. may_have o reply)
          (same_open (Answered d r ∷ []) c k one.0 (answers_one c d r k one.0 one.2)) ∙ may,
    ) k' there a

-- ---- a step

-- what each call that is with server a is after the step
abbrev pub IsKept : World → ℕ → RuleResult → Type 0
IsKept v a o = (c : ℕ) (k : Connection) → slice_get v.connections c ≡ Some k → k.stage ≡ Asked
    → ((k.home ≢ a) × IsOpenAt (server v k.home) c) ⊎ ((k.home ≡ a) × (IsOpenAt o.state c ⊎ Fits c k o.outputs))

-- if each call with a server waits there or is answered by server a's step, those still with one wait there
pub acted_open : (v : World) (a : ℕ) (input : Input)
    → a < length v.servers
    → IsKept v a (step (server v a) input)
    → AllOpen (takes v a input)
unfolding with_server
acted_open v a input l kept c k' here asked =
    let o = step (server v a) input in
    let v' = with_server v a o.state in
    let before = connection-before_all v' a o.outputs c k' here in
    let same = still_asked o.outputs c before.0 k' before.2 asked in
    elim (kept c before.0 before.1 (ap (λ (x : Connection). x.stage) (sym same) ∙ asked)) [
      | inl other ↦ subst (λ s. IsOpenAt s c)
          (sym (ap (λ (x : Connection). server (put_all v' a o.outputs) x.home) same
          ∙ server-put_all v' a o.outputs before.0.home ∙ server_apart v a before.0.home o.state
          other.0)) other.1
      | inr own ↦ elim own.1 [
        | inl waits ↦ subst (λ s. IsOpenAt s c)
            (sym (ap (λ (x : Connection). server (put_all v' a o.outputs) x.home) same
            ∙ ap (λ x. server (put_all v' a o.outputs) x) own.0 ∙ server-put_all v' a o.outputs a
            ∙ server_same v a o.state l)) waits
        | inr fits ↦ absurd (fitting v' a o.outputs c before.0 before.1 fits k' here asked)
      ]
    ]
