-- Who hands in calls at ports below n alone gets replies at such ports alone.
use Rattle.std.proofs.Common.{◌≡◌, ℕ, ◌<◌, ◌≤◌, nat_lt, ◌==◌, ◌&&◌, Bool, true, false, cond, not, List, [], ◌∷◌, refl}
use Rattle.std.proofs.Common.{arith}
use Rattle.std.specs.Bool.{beq}
use Rattle.std.proofs.lemmas.Bool.{eq-eqb, ne_eqb, and_parts, ltb-true, ltb-false}
use Rattle.table.specs.Operations.{is_update, is_value}
use Rattle.node.specs.declared.servers.OpenUpdate.{OpenUpdate}
use Rattle.node.specs.declared.servers.OpenRead.{OpenRead}
use Rattle.node.specs.declared.messages.Input.{Input}
use Rattle.node.specs.declared.messages.Input.TheVariants.{Call as Called, From, Gone}
use Rattle.node.specs.declared.messages.Output.{Output}
use Rattle.node.specs.declared.messages.Output.TheVariants.{To, Reply as Replied}
use Rattle.node.specs.Servers.{ServerState, opening}
use Rattle.node.specs.Steps.{step}
use Rattle.node.specs.Lawful.{IsInput, HoldsEntry, IsLawful}
use Rattle.node.specs.Nodes.{NodeState, is_none_open, is_idle}
use Rattle.node.specs.Runs.{after, put_out, AreInputs}
use Rattle.node.specs.Replies.{is_call_at, is_reply_at, calls_at, replies_at, open_at, AreCallsBelow, AreRepliesBelow}
use Rattle.node.specs.Replies.{AreOpenBelow}
use Rattle.node.proofs.Counts.{count-cons}
use Rattle.node.proofs.StepCloses.{answers-step}
use Rattle.node.proofs.RunLaws.{opened-calls, closed-after}

elsewhere : (here kind : Bool) → here ≡ false → ◌≡◌ {A = ℕ} (cond (here && kind) 1 0) 0
elsewhere here kind away = rw away refl

-- calls below n: none at a port from n on
no_calls : (n : ℕ) (inputs : List Input) (port : ℕ) (reads : Bool)
    → n ≤ port
    → AreCallsBelow n inputs
    → calls_at port reads inputs ≡ 0
no_calls n [] port reads above below = refl
no_calls n (Called p made ∷ is) port reads above below =
    let away =
    elsewhere (p == port) (beq reads (not (is_update made.op))) (ne_eqb p port (λ same. omega (arith, below.0))) in
    omega (arith, away, no_calls n is port reads above below.1, count-cons (is_call_at port reads) (Called p made) is)
no_calls n (From i peer ∷ is) port reads above below =
    omega (arith, no_calls n is port reads above below, count-cons (is_call_at port reads) (From i peer) is)
no_calls n (Gone j ∷ is) port reads above below =
    omega (arith, no_calls n is port reads above below, count-cons (is_call_at port reads) (Gone j) is)

-- a reply counts at its own port
itself : (kind : Bool) → beq kind kind ≡ true
itself true = refl
itself false = refl

counts_itself : (p : ℕ) (kind : Bool) → ◌≡◌ {A = ℕ} (cond (p == p && beq kind kind) 1 0) 1
counts_itself p kind = rw (eq-eqb p p refl, itself kind) refl

not_above : (p n : ℕ) (b : Bool) → nat_lt p n ≡ b → (n ≤ p → ⊥) → p < n
not_above p n true is h = ltb-true p n is
not_above p n false is h = absurd (h (ltb-false p n is))

-- no reply at a port from n on: all are below n
replies_below : (n : ℕ) (os : List Output)
    → ((port : ℕ) (reads : Bool) → n ≤ port → replies_at port reads os ≡ 0)
    → AreRepliesBelow n os
replies_below n [] none = tt
replies_below n (To to peer ∷ os) none =
    replies_below n os
    (λ port reads above. omega (arith, none port reads above, count-cons (is_reply_at port reads) (To to peer) os))
replies_below n (Replied p reply ∷ os) none =
    let one = count-cons (is_reply_at p (is_value reply)) (Replied p reply) os in (
      not_above p n (nat_lt p n) refl
          (λ above. omega (arith, none p (is_value reply) above, counts_itself p (is_value reply), one)),
      replies_below n os
          (λ port reads above. omega
          (arith, none port reads above, count-cons (is_reply_at port reads) (Replied p reply) os)),
    )

-- after a step that was handed calls at ports below n alone, none is open at another port
pub open_below-step : (s : ServerState) (input : Input) (n : ℕ)
    → IsLawful s
    → IsInput input
    → HoldsEntry input
    → AreOpenBelow n s
    → AreCallsBelow n (input ∷ [])
    → AreOpenBelow n (step s input).state
open_below-step s input n h fit valid waits below = λ port reads above.
    omega (
      arith,
      (answers-step s input fit valid h).calls port reads,
      waits port reads above,
      opened-calls port reads s input,
      no_calls n (input ∷ []) port reads above below,
    )

-- a step that was handed calls at ports below n alone puts out replies at such ports alone
pub replies_below-step : (s : ServerState) (input : Input) (n : ℕ)
    → IsLawful s
    → IsInput input
    → HoldsEntry input
    → AreOpenBelow n s
    → AreCallsBelow n (input ∷ [])
    → AreRepliesBelow n (step s input).outputs
replies_below-step s input n h fit valid waits below = replies_below n (step s input).outputs (λ port reads above.
    omega (
      arith,
      (answers-step s input fit valid h).calls port reads,
      waits port reads above,
      opened-calls port reads s input,
      no_calls n (input ∷ []) port reads above below,
    ))

-- after a run that was handed calls at ports below n alone, none is open at another port
pub open_below-after : (s : ServerState) (inputs : List Input) (n : ℕ)
    → IsLawful s
    → AreInputs inputs
    → AreOpenBelow n s
    → AreCallsBelow n inputs
    → AreOpenBelow n (after s inputs)
open_below-after s inputs n h valid waits below = λ port reads above.
    omega (
      arith,
      closed-after s inputs port reads valid h,
      waits port reads above,
      no_calls n inputs port reads above below,
    )

-- a run that was handed calls at ports below n alone puts out replies at such ports alone
pub replies_below-after : (s : ServerState) (inputs : List Input) (n : ℕ)
    → IsLawful s
    → AreInputs inputs
    → AreOpenBelow n s
    → AreCallsBelow n inputs
    → AreRepliesBelow n (put_out s inputs)
replies_below-after s inputs n h valid waits below = replies_below n (put_out s inputs) (λ port reads above.
    omega (
      arith,
      closed-after s inputs port reads valid h,
      waits port reads above,
      no_calls n inputs port reads above below,
    ))

-- ---- servers without open calls

no_updates_open : (us : List OpenUpdate) (asks : List OpenRead) (s : ServerState) (port : ℕ) (reads : Bool)
    → s.pend ≡ us
    → s.asks ≡ asks
    → is_none_open us ≡ true
    → is_none_open asks ≡ true
    → open_at port reads s ≡ 0
no_updates_open [] [] s port true none asked h g = rw asked refl
no_updates_open [] [] s port false none asked h g = rw none refl
no_updates_open [] (r ∷ rs) s port reads none asked h g = absurd cc
no_updates_open (u ∷ us) asks s port reads none asked h g = absurd cc

-- at an idle node no call is open at any port
pub idle-none_open : (n : NodeState) (port : ℕ) (reads : Bool) → is_idle n ≡ true → open_at port reads n.server ≡ 0
idle-none_open n port reads idle =
    let parts = and_parts (not n.stopped && is_none_open n.server.pend) (is_none_open n.server.asks) idle in
    let first = and_parts (not n.stopped) (is_none_open n.server.pend) parts.0 in
    no_updates_open n.server.pend n.server.asks n.server port reads refl refl first.1 parts.1

-- before any input no call is open at any port
pub opening-none_open : (id count port : ℕ) (reads : Bool) → open_at port reads (opening id count) ≡ 0
opening-none_open id count port true = refl
opening-none_open id count port false = refl
