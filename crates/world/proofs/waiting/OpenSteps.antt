-- What a step makes of the own updates: they stay numbered in order, what is new goes to the head, and who is the head
-- has taken them all, as long as numbers are left.
use Rattle.std.proofs.Common.{◌≡◌, ℕ, ◌+◌, ◌<◌, ◌≤◌, false, List, [], ◌∷◌, ◌++◌, length, slice_index_or, Some, refl}
use Rattle.std.proofs.Common.{arith, ◌⊎◌, inl, inr, ap, sym, subst, ◌∙◌}
use Rattle.table.specs.declared.operations.Call.{Call}
use Rattle.versions.specs.Entries.{LogEntry}
use Rattle.versions.specs.Stores.{last_number}
use Rattle.node.specs.declared.servers.OpenUpdate.{OpenUpdate}
use Rattle.node.specs.declared.messages.Body.TheVariants.{Op, Forward}
use Rattle.node.specs.declared.messages.Peer.{Peer}
use Rattle.node.specs.declared.messages.Input.{Input}
use Rattle.node.specs.declared.messages.Input.TheVariants.{From}
use Rattle.node.specs.Servers.{ServerState, RuleResult, seen_of, head_of, is_head}
use Rattle.node.specs.Numbering.{appended}
use Rattle.node.specs.Steps.{step}
use Rattle.node.specs.Lawful.{IsInput, HoldsEntry, IsSound, IsLawful}
use Rattle.node.specs.Actions.{Action, Append, act, does, Cause, left, Guard, AreGuarded, IsDone, IsPaid, AreInTurn}
use Rattle.node.specs.Actions.{due_in_the_end, nothing_due}
use Rattle.node.proofs.SoundActions.{grown_same, seat_act}
use Rattle.node.proofs.DoneActions.{came_left, grown_does}
use Rattle.node.proofs.DoneRules.{last_appended, seen_same, may_take}
use Rattle.node.proofs.DoneSteps.{step_whole}
use Rattle.world.proofs.streams.Streaming.{IsRun}
use Rattle.world.proofs.waiting.Opening.{ids, ids_of, unacked, AreOwn, Own, HasSeen}
use Rattle.world.proofs.waiting.OwnIds.{OwnDue}
use Rattle.world.proofs.waiting.Paces.{takes_of, pace}
use Rattle.world.proofs.waiting.OwnEntries.{along_end, act_seen, does_seen, IsExpected, same_act, IsOf, act_appended}
use Rattle.world.proofs.waiting.OwnEntries.{own_along}
use Rattle.world.proofs.waiting.HeadOps.{ops_to, IsSent, does_op, does_new_op}
use Rattle.world.proofs.waiting.HeadTakes.{HasRoom, IsLed, does_led}

-- ---- how long the log gets

-- only own entries are added, or one that the input asks for, or one that it forwards
abbrev pub Lengthens : Cause → ServerState → ServerState → Type 0
Lengthens c s u =
    (last_number u.store + seen_of s s.id ≤ last_number s.store + seen_of u s.id)
    ⊎ ((i : ℕ) × (m : Peer) × (id : ℕ) × (call : Call) × (c ≡ Some (From i m)) × (m.body ≡ Op id call) × (i < 16)
    × (id ≤ seen_of u i))
    ⊎ ((i : ℕ) × (m : Peer) × (e : LogEntry) × (c ≡ Some (From i m)) × (m.body ≡ Forward e))

long_appended : (c : Cause) (input : Input) (s u : ServerState) (e : LogEntry)
    → IsOf c input
    → IsSound u
    → u.id ≡ s.id
    → Guard c u (Append e)
    → last_number u.store + seen_of s s.id ≤ last_number s.store + seen_of u s.id
    → Lengthens (Some input) s (appended u e)
long_appended c input s u e f h id g low = elim g.1 [
  | inr p ↦ inr (inr (p.from, p.message, e, f _ p.came, p.body))
  | inl m ↦
      let from : e.origin ≡ m.origin = ap (λ (x : LogEntry). x.origin) m.made in
      let named : e.id ≡ m.id = ap (λ (x : LogEntry). x.id) m.made in
      let served : e.origin < length u.seen = omega (arith, g.0.served, h.seen) in
      let new = seen_same u e served in
      elim m.wanted [
        | inl mine ↦ (let own : e.origin ≡ s.id = from ∙ mine.0 ∙ id in
            let may = may_take u m.origin m.id m.taken in
            inl (omega (
              arith,
              low,
              last_appended u e,
              new,
              named,
              may.next,
              ap (λ o. seen_of (appended u e) o) own,
              ap (λ o. seen_of u o) own,
              ap (λ o. seen_of u o) from,
            )))
        | inr other ↦ inr
            (inl (
              m.origin,
              other.0,
              m.id,
              m.call,
              f _ other.1,
              other.2,
              omega (arith, g.0.served, from),
              omega (arith, new, named, ap (λ o. seen_of (appended u e) o) from),
            ))
      ]
]

long_act : (c : Cause) (input : Input) (s u : ServerState) (a : Action)
    → IsOf c input
    → IsSound u
    → u.id ≡ s.id
    → s.id < 16
    → Guard c u a
    → Lengthens (Some input) s u
    → Lengthens (Some input) s (act u a).state
long_act c input s u a f h id low g (inr (inr x)) = inr (inr x)
long_act c input s u a f h id low g (inr (inl x)) =
    inr (inl (x.0, x.1, x.2, x.3, x.4, x.5, x.6, omega (arith, x.7, act_seen u a x.0 h x.6)))
long_act c input s u a f h id low g (inl x) = elim (same_act u a h) [
  | inr same ↦ inl (omega (arith, x, same.last, ap (λ (xs : List ℕ). slice_index_or xs s.id 0) same.seen))
  | inl new ↦ subst (λ b. Guard c u b → Lengthens (Some input) s (act u b).state) (sym new.1)
      (λ k. subst (λ t. Lengthens (Some input) s t) (sym (act_appended u new.0))
      (long_appended c input s u new.0 f h id k x)) g
]

does_long : (actions : List Action) (c : Cause) (input : Input) (s u : ServerState)
    → IsOf c input
    → u.id ≡ s.id
    → s.id < 16
    → AreGuarded c u actions
    → Lengthens (Some input) s u
    → Lengthens (Some input) s (does u actions).state
unfolding does
does_long [] c input s u f id low g x = x
does_long (a ∷ later) c input s u f id low g x =
    does_long later (left c) input s (act u a).state (λ y e. f y (came_left c y e)) ((seat_act u a).id ∙ id) low g.2
    (long_act c input s u a f g.0 id low g.1 x)

-- ---- steps

-- what a step does for own updates, and what it sends to a head that stays or is new
pub record Serves (s : ServerState) (input : Input) (a : RuleResult) : Type 0 where
  pub id : a.state.id ≡ s.id
  pub few : a.state.next_id ≤ s.next_id + takes_of (Some input)
  pub seen : (o : ℕ) → o < 16 → seen_of s o ≤ seen_of a.state o
  pub own : Own a.state
  pub first : HasSeen a.state
  -- a head that stays gets the ids that are new, and a new one all that wait
  pub same : (h : ℕ)
      → head_of s ≡ Some h
      → head_of a.state ≡ Some h
      → is_head a.state ≡ false
      → (m : ℕ)
      → s.next_id ≡ m + 1
      → (n : ℕ) × (a.state.next_id ≡ n + 1) × IsRun m n (ops_to h a.outputs)
  pub new : (h : ℕ)
      → (head_of s ≡ Some h → ⊥)
      → head_of a.state ≡ Some h
      → is_head a.state ≡ false
      → (m : ℕ) × (n : ℕ) × (m ≤ seen_of a.state a.state.id) × (a.state.next_id ≡ n + 1)
      × IsRun m n (ops_to h a.outputs)
  pub longer : Lengthens (Some input) s a.state

-- all that was due went out
all_sent : (m next_id : ℕ) (sent : List ℕ) (us : List OpenUpdate)
    → us ≡ []
    → IsSent m sent us next_id
    → (n : ℕ) × (next_id ≡ n + 1) × IsRun m n sent
all_sent m next_id sent us none h =
    let same : h.middle ≡ h.last = subst (λ xs. IsRun h.middle h.last (ids xs)) none h.due in
    (h.last, h.issued, subst (λ k. IsRun m k sent) same h.out)

serves_does : (actions : List Action) (input : Input) (s : ServerState)
    → IsSound s
    → IsDone (Some input) s (does s actions)
    → AreGuarded (Some input) s actions
    → AreInTurn (nothing_due s) s actions
    → IsPaid (does s actions).state (due_in_the_end (nothing_due s) s actions)
    → Own s
    → HasSeen s
    → HasRoom s
    → IsExpected s input
    → Serves s input (does s actions)
serves_does actions input s h d g t p own first room expected =
    let c : Cause = Some input in
    let o = does s actions in
    let n = nothing_due s in
    let low : s.id < 16 = omega (arith, h.placed, h.counted) in
    let f : IsOf c input = λ x e. e in
    let grown = grown_does actions c s g in
    let along = own_along actions c input s s n f expected (grown_same s)
    (inr (inl (record { last = refl; seen = refl }))) g t own in
    let last = along_end (λ e x. OwnDue x e) actions n s along in
    let led : IsLed c s n = record {
      since = room;
      leads = λ x. record {
        from = own.last;
        last = own.last;
        low = omega (arith, first x, own.issued);
        issued = own.issued;
        run = refl;
        room = inl room;
      };
      called = λ x port made e. first x;
    } in
    let paces = pace c s o d in
    record {
      id = grown.id;
      few = paces.0;
      seen = λ q l. does_seen actions c s q g l;
      own = subst (λ us. AreOwn o.state.next_id (seen_of o.state o.state.id) (ids o.state.pend)
          (ids_of o.state.id (us ++ unacked o.state.store))) p.settled last;
      first = does_led actions c n s g t along led p;
      same = λ x was is other m e. all_sent m o.state.next_id (ops_to x o.outputs) _ (p.sent other)
          (does_op actions c n s x m m g t was is e refl);
      new = λ x was is other. (let r = does_new_op actions c n s x g t along was is in
          let q = all_sent r.0 o.state.next_id (ops_to x o.outputs) _ (p.sent other) r.2 in
          (r.0, q.0, r.1, q.1, q.2));
      longer = does_long actions c input s s f refl low g (inl (omega arith));
    }

-- what a step serves
pub serves_step : (s : ServerState) (input : Input)
    → IsLawful s
    → IsInput input
    → HoldsEntry input
    → Own s
    → HasSeen s
    → HasRoom s
    → IsExpected s input
    → Serves s input (step s input)
serves_step s input h fit valid own first room expected =
    let w = step_whole s input h fit valid in
    let xs = w.done.actions in
    subst (λ o. Serves s input o) (sym w.done.same)
    (serves_does xs input s h.sound (record { actions = xs; guarded = w.done.guarded; same = refl })
    w.done.guarded w.turns
    (subst (λ (o : RuleResult). IsPaid o.state (due_in_the_end (nothing_due s) s xs)) w.done.same w.paid) own first
    room expected)
