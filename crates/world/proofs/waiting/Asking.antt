-- Each open read of a server is on its way: its tail is asked, or answers with a number that is taken.
use Rattle.std.proofs.Common.{◌≡◌, ◌≢◌, ℕ, zero, suc, ◌<◌, ◌≤◌, true, false, List, [], ◌∷◌, length, Some, refl, sym, ap}
use Rattle.std.proofs.Common.{subst, ◌∙◌, arith, ◌⊎◌}
use Rattle.versions.specs.Stores.{last_number}
use Rattle.node.specs.declared.servers.OpenRead.{OpenRead}
use Rattle.node.specs.declared.messages.Body.TheVariants.{Query, Answer}
use Rattle.node.specs.declared.messages.Peer.{Peer}
use Rattle.node.specs.declared.messages.Input.TheVariants.{From}
use Rattle.node.specs.declared.messages.Output.TheVariants.{To}
use Rattle.node.specs.Views.{has, tail}
use Rattle.node.specs.Servers.{tail_of, is_tail}
use Rattle.node.specs.Steps.{step}
use Rattle.node.specs.Lawful.{AreReads, IsSound, IsLawful}
use Rattle.world.specs.Worlds.{World, server, link, lives}
use Rattle.node.proofs.Lists.{In}
use Rattle.node.specs.Actions.{IsTakenIn}
use Rattle.world.proofs.trace.Traces.{Traced, count}
use Rattle.world.proofs.trace.Layers.{Lawful, Goes, Carries, IsAddressed}
use Rattle.node.proofs.Beginnings.{begins-length}
use Rattle.world.proofs.trace.IdLaws.{tail_of_is, predecessor_from, is_itself}
use Rattle.node.proofs.DoneActions.{seat_after}
use Rattle.node.proofs.DoneSteps.{step_whole, step_done}
use Rattle.node.proofs.RuleLaws.{lawful-step}
use Rattle.world.proofs.streams.StepTellings.{informs_step}
use Rattle.world.proofs.streams.StreamSteps.{last_is}
use Rattle.world.proofs.streams.StreamDeliveries.{is_heard_there}

-- j is the tail in i's view, and doesn't know i to have failed
pub record Tailed (w : World) (i j : ℕ) : Type 0 where
  pub here : i < length w.servers
  pub inside : j < length w.servers
  pub tail : tail_of (server w i) ≡ Some j
  pub other : j ≢ i
  pub unaware : has (server w j).view i ≡ false

-- i asks j for this read, or j answers it with a number that isn't below its lower bound
abbrev pub IsOnItsWay : World → ℕ → ℕ → OpenRead → Type 0
IsOnItsWay w i j r =
    ((m : Peer) × (key : List ℕ) × In m (link w i j) × (m.body ≡ Query r.ask key))
    ⊎ ((m : Peer) × (n : ℕ) × In m (link w j i) × (m.body ≡ Answer r.ask n) × (r.lower_bound ≤ n))

-- what holds between steps
abbrev pub Asking : World → Type 0
Asking w = (i j : ℕ) → Tailed w i j → (r : OpenRead) → In r (server w i).asks → IsOnItsWay w i j r

-- ---- lower bounds and asks

lower_bound_within : (above lower_bound : ℕ) (rs : List OpenRead) (next_ask acked : ℕ) (r : OpenRead)
    → AreReads above lower_bound rs next_ask acked
    → In r rs
    → r.lower_bound ≤ acked
lower_bound_within above lower_bound [] next_ask acked r h i = absurd (let n = i.1 in cc)
lower_bound_within above lower_bound (q ∷ rs) next_ask acked r h (zero, i) =
    let same : q ≡ r =
    cc in omega (arith, ap (λ (x : OpenRead). x.lower_bound) same, lowest q.ask q.lower_bound rs next_ask acked h.2)
  where
    lowest : (a m : ℕ) (xs : List OpenRead) (n k : ℕ) → AreReads a m xs n k → m ≤ k
    lowest a m [] n k g = g.1
    lowest a m (x ∷ xs) n k g = omega (arith, g.1, lowest x.ask x.lower_bound xs n k g.2)
lower_bound_within above lower_bound (q ∷ rs) next_ask acked r h (suc k, i) =
    lower_bound_within q.ask q.lower_bound rs next_ask acked r h.2 (k, i)

-- ---- a message that comes

-- what a message says is taken in
heeds : (t : Traced) (i a : ℕ) (m : Peer)
    → Lawful t
    → IsAddressed t i a m
    → IsSound (server t.world i)
    → IsLawful (server t.world a)
    → ((k : ℕ) → has m.view k ≡ true → has (step (server t.world a) (From i m)).state.view k ≡ true)
    × (has (step (server t.world a) (From i m)).state.view i ≡ false
    → IsTakenIn i m.body (step (server t.world a) (From i m)))
heeds t i a m h addressed from lawful =
    (step_whole (server t.world a) (From i m) lawful addressed.fit addressed.entry).heeded
    (is_heard_there t i a m h.framed addressed from)

-- ---- a query reaches the tail

-- a query that reaches the tail is answered with a number that isn't below its read's lower bound
pub query_met : (t : Traced) (i a : ℕ) (m : Peer) (ms : List Peer) (r : OpenRead) (key : List ℕ)
    → Lawful t
    → link t.world i a ≡ m ∷ ms
    → m.body ≡ Query r.ask key
    → IsSound (server t.world i)
    → IsLawful (server t.world a)
    → In r (server t.world i).asks
    → tail_of (server t.world i) ≡ Some a
    → has (step (server t.world a) (From i m)).state.view i ≡ false
    → (answer : Peer) × (n : ℕ) × In (To i answer) (step (server t.world a) (From i m)).outputs
    × (answer.body ≡ Answer r.ask n) × (r.lower_bound ≤ n)
query_met t i a m ms r key h first is from lawful waits to unaware =
    let addressed = h.framed.sound i a m (rw first (0, refl)) in
    let o = step (server t.world a) (From i m) in
    let s = o.state in
    let known = heeds t i a m h addressed from lawful in
    let after = lawful-step (server t.world a) (From i m) addressed.fit addressed.entry lawful in
    let seat = seat_after (Some (From i m)) (server t.world a) o
    (step_done (server t.world a) (From i m) lawful addressed.fit addressed.entry) in
    let id : s.id ≡ a = seat.id ∙ h.framed.id a addressed.receiver in
    let chain : s.count ≡ count t = seat.count ∙ h.framed.chain a addressed.receiver in
    let informs = informs_step (server t.world a) (From i m) lawful addressed.fit addressed.entry in
    let g : Goes i a m.view (count t) (Query r.ask key) = subst (λ b. Goes i a m.view (count t) b) is addressed.goes in
    let found : tail s.view s.count ≡ Some a = ap (λ n. tail s.view n) chain
    ∙ predecessor_from s.view (count t) a
    (record {
      below = addressed.receiver;
      out = ap (λ x. has s.view x) (sym id) ∙ after.sound.outside;
      between = λ x p q. known.0 x (g.1 x p q);
    }) in
    let last : is_tail s ≡ true = is_itself (tail_of s) s.id (found ∙ ap Some (sym id)) in
    let acks = h.logged.acks i a g.0 addressed.receiver (tail_of_is (server t.world i) a to).out in
    let held = (h.logged.holds a addressed.receiver).acked in
    let lower_bound = lower_bound_within 0 (server t.world i).store.floor (server t.world i).asks
    (server t.world i).next_ask
    (server t.world i).store.acked r from.reads waits in
    let took : IsTakenIn i (Query r.ask key) o = subst (λ b. IsTakenIn i b o) is (known.1 unaware) in
    let answer = took last in (
      answer.0,
      last_number s.store,
      answer.1,
      answer.2,
      omega (arith, lower_bound, acks, held, last_is t h.logged a addressed.receiver, informs.last),
    )

-- ---- an answer reaches who asked

-- a read that its tail answers with a number from its lower bound on isn't open after the delivery
pub answer_met : (t : Traced) (i j : ℕ) (m : Peer) (ms : List Peer) (r : OpenRead) (n : ℕ)
    → Lawful t
    → link t.world j i ≡ m ∷ ms
    → m.body ≡ Answer r.ask n
    → r.lower_bound ≤ n
    → IsSound (server t.world j)
    → IsLawful (server t.world i)
    → lives t.world i ≡ true
    → tail_of (step (server t.world i) (From j m)).state ≡ Some j
    → In r (step (server t.world i) (From j m)).state.asks
    → ⊥
answer_met t i j m ms r n h first is low from lawful alive to waits =
    let addressed = h.framed.sound j i m (rw first (0, refl)) in
    let o = step (server t.world i) (From j m) in
    let known = heeds t j i m h addressed from lawful in
    let informs = informs_step (server t.world i) (From j m) lawful addressed.fit addressed.entry in
    let c : Carries t j m.view (Answer r.ask n) =
    subst (λ b. Carries t j m.view b) is (h.logged.carries j i m (rw first (0, refl))) in
    let long = begins-length _ _ (h.logged.living i alive) in
    let took : IsTakenIn j (Answer r.ask n) o =
    subst (λ b. IsTakenIn j b o) is (known.1 (tail_of_is o.state j to).out) in
    took to r waits refl low (omega (arith, c, long, last_is t h.logged i addressed.receiver, informs.last))
