-- What a step tells a server's neighbours, and what it asks of the tail, one case an action: the successor gets the new
-- entries, or if it is a new one all entries that weren't acknowledged; the predecessor the commit number, if
-- that or itself is new; and each read that is open after it was open under the same tail, or a query for it is put
-- out.
use Rattle.std.proofs.Common.{◌≡◌, ℕ, ◌≤◌, Bool, true, false, cond, not, List, [], ◌∷◌, ◌++◌, Option, Some, None, refl}
use Rattle.std.proofs.Common.{sym, ap, subst, ◌∙◌, arith, inl, inr, ◌⊎◌}
use Rattle.std.proofs.lemmas.Bool.{cond_both, cases_eq, cases_Bool, both_ways, eq-eqb, ne_eqb, false_from_ne_true}
use Rattle.std.proofs.lemmas.Option.{same_Some}
use Rattle.std.specs.Prelude.{◌==◌}
use Rattle.versions.specs.Entries.{LogEntry}
use Rattle.versions.specs.Stores.{last_number}
use Rattle.node.specs.declared.servers.OpenUpdate.{OpenUpdate}
use Rattle.node.specs.declared.servers.OpenRead.{OpenRead}
use Rattle.node.specs.declared.messages.Body.{Body}
use Rattle.node.specs.declared.messages.Body.TheVariants.{Op, Forward, Ack, Query, Answer}
use Rattle.node.specs.declared.messages.Peer.{Peer}
use Rattle.node.specs.declared.messages.Input.{Input}
use Rattle.node.specs.declared.messages.Output.{Output}
use Rattle.node.specs.declared.messages.Output.TheVariants.{To}
use Rattle.table.specs.declared.operations.Reply.{Reply}
use Rattle.node.specs.Views.{View, is_same}
use Rattle.node.specs.Servers.{ServerState, RuleResult, tail_of, is_tail, predecessor_of, successor_of, message_to}
use Rattle.node.specs.Numbering.{open_update, replied, reply_to, appended, entered}
use Rattle.node.specs.Reading.{asked}
use Rattle.node.specs.Joining.{widened}
use Rattle.node.specs.Steps.{trimmed, step}
use Rattle.node.specs.Lawful.{IsInput, HoldsEntry, IsSound, IsLawful}
use Rattle.node.specs.Actions.{Action, Widen, Append, Reach, Settle, Send, Finish, Trim, Enter, Ask, Show, act, does}
use Rattle.node.specs.Actions.{Cause, left, MaySend, Guard, AreGuarded, Due, IsPaid, IsTurn, IsTurnOf, due, due_after}
use Rattle.node.specs.Actions.{AreInTurn, due_in_the_end, nothing_due, but_first}
use Rattle.node.proofs.Lists.{In, in_front, in_behind, in_more, in_pushed}
use Rattle.node.proofs.Neighbours.{successor_found, following_from}
use Rattle.node.proofs.OpenLists.{in_without}
use Rattle.node.proofs.SoundActions.{Grown, grown_act}
use Rattle.node.proofs.DoneActions.{grown_does}
use Rattle.node.proofs.DoneRules.{last_appended}
use Rattle.node.proofs.DoneSteps.{last_trimmed, step_whole}
use Rattle.node.proofs.RuleLaws.{same_is}
use Rattle.world.proofs.streams.Streaming.{forwarded_number, IsRun}
use Rattle.world.proofs.streams.ForwardRuns.{run-append, brought_to-append, none_brought, closed_none, numbers_to, number_there}

-- either server y is the one, or it isn't
pub some_or_not : (found : Option ℕ) (y : ℕ) → (found ≡ Some y) ⊎ (found ≡ Some y → ⊥)
some_or_not None y = inr (λ e. absurd cc)
some_or_not (Some x) y =
    elim (cases_eq x y) [ inl same ↦ inl (ap Some same) | inr other ↦ inr (λ e. other (same_Some x y e)) ]

-- two that are both server k are the same
pub same_self : (a b : Option ℕ) (k : ℕ) → a ≡ Some k → b ≡ Some k → is_same a b ≡ true
same_self a b k e g = rw (e, g) (eq-eqb k k refl)

-- ---- the successor

sent_run : (c : Cause) (d : Due) (s : ServerState) (j : ℕ) (body : Body) (y : ℕ)
    → MaySend c s j body
    → IsTurnOf body d
    → successor_of s ≡ Some y
    → IsRun d.forwarded (due_after body d).forwarded (numbers_to y (message_to s (Some j) body))
sent_run c d s j (Op id call) y g t n = rw (none_brought forwarded_number s y (Some j) (Op id call) refl) refl
sent_run c d s j (Forward e) y g t n = rw (number_there s y (Some j) e (sym g.0 ∙ n)) (t, sym t)
sent_run c d s j (Ack k) y g t n = rw (none_brought forwarded_number s y (Some j) (Ack k) refl) refl
sent_run c d s j (Query ask key) y g t n = rw (none_brought forwarded_number s y (Some j) (Query ask key) refl) refl
sent_run c d s j (Answer ask k) y g t n = rw (none_brought forwarded_number s y (Some j) (Answer ask k) refl) refl

-- an action forwards to a successor that stays what is due
act_run : (c : Cause) (d : Due) (s : ServerState) (a : Action) (y : ℕ)
    → Guard c s a
    → IsTurn d s a
    → successor_of s ≡ Some y
    → successor_of (act s a).state ≡ Some y
    → IsRun d.forwarded (due d s a).forwarded (numbers_to y (act s a).outputs)
unfolding act
act_run c d s (Widen v) y g t n m = rw (same_self (successor_of s) (successor_of (widened s v)) y n m) (ap (λ (x : Due). x.forwarded) t)
act_run c d s (Append e) y g t n m = refl
act_run c d s (Reach k) y g t n m = refl
act_run c d s (Settle e) y g t n m = rw (closed_none forwarded_number y s.id s.pend e) refl
act_run c d s (Send j body) y g t n m = sent_run c d s j body y g.0 t n
act_run c d s (Finish r k) y g t n m = refl
act_run c d s Trim y g t n m = refl
act_run c d s (Enter port call) y g t n m = refl
act_run c d s (Ask port key) y g t n m = refl
act_run c d s (Show port key) y g t n m = refl

sent_none : (c : Cause) (s : ServerState) (j : ℕ) (body : Body) (y : ℕ)
    → MaySend c s j body
    → (successor_of s ≡ Some y → ⊥)
    → numbers_to y (message_to s (Some j) body) ≡ []
sent_none c s j (Op id call) y g other = none_brought forwarded_number s y (Some j) (Op id call) refl
sent_none c s j (Forward e) y g other = rw (ne_eqb j y (λ same. other (g.0 ∙ ap Some same))) refl
sent_none c s j (Ack k) y g other = none_brought forwarded_number s y (Some j) (Ack k) refl
sent_none c s j (Query ask key) y g other = none_brought forwarded_number s y (Some j) (Query ask key) refl
sent_none c s j (Answer ask k) y g other = none_brought forwarded_number s y (Some j) (Answer ask k) refl

-- and to no other
act_none : (c : Cause) (s : ServerState) (a : Action) (y : ℕ)
    → Guard c s a
    → (successor_of s ≡ Some y → ⊥)
    → numbers_to y (act s a).outputs ≡ []
unfolding act
act_none c s (Widen v) y g other = refl
act_none c s (Append e) y g other = refl
act_none c s (Reach k) y g other = refl
act_none c s (Settle e) y g other = closed_none forwarded_number y s.id s.pend e
act_none c s (Send j body) y g other = sent_none c s j body y g.0 other
act_none c s (Finish r k) y g other = refl
act_none c s Trim y g other = refl
act_none c s (Enter port call) y g other = refl
act_none c s (Ask port key) y g other = refl
act_none c s (Show port key) y g other = refl

-- a new successor is due the entries that aren't acknowledged
act_new : (d : Due) (s : ServerState) (a : Action) (y : ℕ)
    → (successor_of s ≡ Some y → ⊥)
    → successor_of (act s a).state ≡ Some y
    → (due d s a).forwarded ≡ s.store.acked
unfolding act appended entered asked trimmed
act_new d s (Widen v) y other m = cond_both (is_same (successor_of s) (successor_of (widened s v))) _ _ (λ (k : ℕ). k ≡ s.store.acked)
    (λ t. absurd (other (same_is _ _ t ∙ m))) (λ f. refl)
act_new d s (Append e) y other m = absurd (other m)
act_new d s (Reach k) y other m = absurd (other m)
act_new d s (Settle e) y other m = absurd (other m)
act_new d s (Send j body) y other m = absurd (other m)
act_new d s (Finish r k) y other m = absurd (other m)
act_new d s Trim y other m = absurd (other m)
act_new d s (Enter port call) y other m = absurd (other m)
act_new d s (Ask port key) y other m = absurd (other m)
act_new d s (Show port key) y other m = absurd (other m)

-- a server that is the next at first and at last is so in between
next_between : (s u t : ServerState) (y : ℕ)
    → Grown s u
    → Grown u t
    → successor_of s ≡ Some y
    → successor_of t ≡ Some y
    → successor_of u ≡ Some y
next_between s u t y g h n m =
    let first = successor_found s y n in
    let last = successor_found t y m in
    following_from u.view u.count u.id y (record {
      above = omega (arith, first.above, g.id);
      within = omega (arith, first.within, g.count);
      out = false_from_ne_true _ (λ e. both_ways _ last.out (h.view y e));
      between = λ x a l. g.view x (first.between x (omega (arith, a, g.id)) l);
    })

same_run : (actions : List Action) (c : Cause) (d : Due) (s : ServerState) (y : ℕ)
    → AreGuarded c s actions
    → AreInTurn d s actions
    → successor_of s ≡ Some y
    → successor_of (does s actions).state ≡ Some y
    → IsRun d.forwarded (due_in_the_end d s actions).forwarded (numbers_to y (does s actions).outputs)
unfolding does
same_run [] c d s y g t n m = refl
same_run (a ∷ later) c d s y g t n m =
    let u = (act s a).state in
    let mid = next_between s u (does u later).state y (grown_act c s a g.1) (grown_does later (left c) u g.2) n m in
    rw (brought_to-append forwarded_number y (act s a).outputs (does u later).outputs)
    (run-append _ _ _ (due d s a).forwarded _ (act_run c d s a y g.1 t.0 n mid)
    (same_run later (left c) (due d s a) u y g.2 t.1 mid m))

new_run : (actions : List Action) (c : Cause) (d : Due) (s : ServerState) (y : ℕ)
    → AreGuarded c s actions
    → AreInTurn d s actions
    → (successor_of s ≡ Some y → ⊥)
    → successor_of (does s actions).state ≡ Some y
    → (f : ℕ) × (f ≤ (does s actions).state.store.acked) × IsRun f (due_in_the_end d s actions).forwarded
    (numbers_to y (does s actions).outputs)
unfolding does
new_run [] c d s y g t other m = absurd (other m)
new_run (a ∷ later) c d s y g t other m =
    let u = (act s a).state in
    let none = act_none c s a y g.1 other in
    elim (some_or_not (successor_of u) y) [
      | inl now ↦ (
        s.store.acked,
        omega (arith, (grown_act c s a g.1).acked, (grown_does later (left c) u g.2).acked),
        rw (brought_to-append forwarded_number y (act s a).outputs (does u later).outputs, none)
            (subst (λ f. IsRun f (due_in_the_end (due d s a) u later).forwarded (numbers_to y (does u later).outputs))
            (act_new d s a y other now)
            (same_run later (left c) (due d s a) u y g.2 t.1 now m)),
      )
      | inr still ↦ (let r = new_run later (left c) (due d s a) u y g.2 t.1 still m in
          (r.0, r.1, rw (brought_to-append forwarded_number y (act s a).outputs (does u later).outputs, none) r.2))
    ]

-- ---- the predecessor

-- server x is told a number from n on
abbrev AcksIn : ℕ → ℕ → List Output → Type 0
AcksIn x n os = (m : Peer) × (k : ℕ) × In (To x m) os × (m.body ≡ Ack k) × (n ≤ k)

-- the predecessor was told before, or is now
abbrev Acknowledges : ℕ → ℕ → Due → ServerState → List Output → Type 0
Acknowledges x n d s os = ((d.untold ≡ false) × (predecessor_of s ≡ Some x) × (n ≤ s.store.acked)) ⊎ AcksIn x n os

sent_ack : (c : Cause) (d : Due) (s : ServerState) (j : ℕ) (body : Body) (x n : ℕ)
    → MaySend c s j body
    → (due_after body d).untold ≡ false
    → predecessor_of s ≡ Some x
    → n ≤ s.store.acked
    → Acknowledges x n d s (message_to s (Some j) body)
sent_ack c d s j (Op id call) x n g h p low = inl (h, p, low)
sent_ack c d s j (Forward e) x n g h p low = inl (h, p, low)
sent_ack c d s j (Ack k) x n g h p low =
    let to : j ≡ x = same_Some j x (sym g.0 ∙ p) in
    inr (
      record { view = s.view; body = Ack k },
      k,
      (0, ap (λ n. Some (To n (record { view = s.view; body = Ack k }))) to),
      refl,
      omega (arith, low, g.1),
    )
sent_ack c d s j (Query ask key) x n g h p low = inl (h, p, low)
sent_ack c d s j (Answer ask k) x n g h p low = inl (h, p, low)

not_false : (b : Bool) → not b ≡ false → b ≡ true
not_false true h = refl
not_false false h = absurd cc

low_widened : (s : ServerState) (v : View) (n : ℕ) → n ≤ (widened s v).store.acked → n ≤ s.store.acked
unfolding widened
low_widened s v n low = low

act_ack : (c : Cause) (d : Due) (s : ServerState) (a : Action) (x n : ℕ)
    → Guard c s a
    → IsTurn d s a
    → (due d s a).untold ≡ false
    → predecessor_of (act s a).state ≡ Some x
    → n ≤ (act s a).state.store.acked
    → Acknowledges x n d s (act s a).outputs
unfolding act appended entered asked trimmed
act_ack c d s (Widen v) x n g t h p low =
    inl (ap (λ (x : Due). x.untold) t, same_is _ _ (not_false _ h) ∙ p, low_widened s v n low)
act_ack c d s (Append e) x n g t h p low = inl (h, p, low)
act_ack c d s (Reach k) x n g t h p low = absurd cc
act_ack c d s (Settle e) x n g t h p low = inl (h, p, low)
act_ack c d s (Send j body) x n g t h p low = sent_ack c d s j body x n g.0 h p low
act_ack c d s (Finish r k) x n g t h p low = inl (h, p, low)
act_ack c d s Trim x n g t h p low = inl (h, p, low)
act_ack c d s (Enter port call) x n g t h p low = inl (h, p, low)
act_ack c d s (Ask port key) x n g t h p low = inl (h, p, low)
act_ack c d s (Show port key) x n g t h p low = inl (h, p, low)

does_ack : (actions : List Action) (c : Cause) (d : Due) (s : ServerState) (x n : ℕ)
    → AreGuarded c s actions
    → AreInTurn d s actions
    → (due_in_the_end d s actions).untold ≡ false
    → predecessor_of (does s actions).state ≡ Some x
    → n ≤ (does s actions).state.store.acked
    → Acknowledges x n d s (does s actions).outputs
unfolding does
does_ack [] c d s x n g t h p low = inl (h, p, low)
does_ack (a ∷ later) c d s x n g t h p low =
    let u = (act s a).state in
    elim (does_ack later (left c) (due d s a) u x n g.2 t.1 h p low) [
      | inr r ↦ inr (r.0, r.1, in_behind (act s a).outputs (does u later).outputs (To x r.0) r.2, r.3, r.4)
      | inl r ↦ elim (act_ack c d s a x n g.1 t.0 r.0 r.1 r.2) [
        | inl q ↦ inl q
        | inr q ↦ inr (q.0, q.1, in_front (act s a).outputs (does u later).outputs (To x q.0) q.2, q.3, q.4)
      ]
    ]

-- ---- both

-- the last number doesn't fall
pub act_last : (c : Cause) (s : ServerState) (a : Action)
    → IsSound s
    → last_number s.store ≤ last_number (act s a).state.store
unfolding act widened entered asked
act_last c s (Widen v) h = omega arith
act_last c s (Append e) h = omega (arith, last_appended s e)
act_last c s (Reach n) h = omega arith
act_last c s (Settle e) h = omega arith
act_last c s (Send j body) h = omega arith
act_last c s (Finish r n) h = omega arith
act_last c s Trim h = omega (arith, last_trimmed s h)
act_last c s (Enter port call) h = omega arith
act_last c s (Ask port key) h = omega arith
act_last c s (Show port key) h = omega arith

does_last : (actions : List Action) (c : Cause) (s : ServerState)
    → AreGuarded c s actions
    → last_number s.store ≤ last_number (does s actions).state.store
unfolding does
does_last [] c s g = omega arith
does_last (a ∷ later) c s g = omega (arith, act_last c s a g.0, does_last later (left c) (act s a).state g.2)

-- server x is told the commit number
abbrev pub Acks : ℕ → RuleResult → Type 0
Acks x a = (m : Peer) × (n : ℕ) × In (To x m) a.outputs × (m.body ≡ Ack n) × (a.state.store.acked ≤ n)

-- what a step tells the neighbours, whether they stayed or are new
pub record Informs (s : ServerState) (a : RuleResult) : Type 0 where
  pub last : last_number s.store ≤ last_number a.state.store
  pub same : (y : ℕ)
      → successor_of s ≡ Some y
      → successor_of a.state ≡ Some y
      → IsRun (last_number s.store) (last_number a.state.store) (numbers_to y a.outputs)
  pub new : (y : ℕ)
      → (successor_of s ≡ Some y → ⊥)
      → successor_of a.state ≡ Some y
      → (f : ℕ) × (f ≤ a.state.store.acked) × IsRun f (last_number a.state.store) (numbers_to y a.outputs)
  pub acks : (x : ℕ)
      → predecessor_of a.state ≡ Some x
      → ((predecessor_of s ≡ Some x) × (a.state.store.acked ≤ s.store.acked)) ⊎ Acks x a

informs_does : (actions : List Action) (c : Cause) (s : ServerState)
    → AreGuarded c s actions
    → AreInTurn (nothing_due s) s actions
    → IsPaid (does s actions).state (due_in_the_end (nothing_due s) s actions)
    → Informs s (does s actions)
informs_does actions c s g t p =
    let d = nothing_due s in
    record {
      last = does_last actions c s g;
      same = λ y n m. subst (λ k. IsRun (last_number s.store) k (numbers_to y (does s actions).outputs))
          (p.forwarded y m) (same_run actions c d s y g t n m);
      new = λ y other m.
          let r = new_run actions c d s y g t other m in
          (r.0, r.1, subst (λ k. IsRun r.0 k (numbers_to y (does s actions).outputs)) (p.forwarded y m) r.2);
      acks = λ x q. elim (does_ack actions c d s x (does s actions).state.store.acked g t (p.told x q) q (omega arith))
          [ inl r ↦ inl (r.1, r.2) | inr r ↦ inr r ];
    }

-- what a step tells the neighbours
pub informs_step : (s : ServerState) (input : Input)
    → IsLawful s
    → IsInput input
    → HoldsEntry input
    → Informs s (step s input)
informs_step s input h fit valid =
    let w = step_whole s input h fit valid in
    let xs = w.done.actions in
    subst (λ o. Informs s o) (sym w.done.same)
    (informs_does xs (Some input) s w.done.guarded w.turns
    (subst (λ (o : RuleResult). IsPaid o.state (due_in_the_end (nothing_due s) s xs)) w.done.same w.paid))

-- ---- the tail

-- these outputs ask server j for this read
abbrev pub Asks : OpenRead → ℕ → List Output → Type 0
Asks r j os = (m : Peer) × (key : List ℕ) × In (To j m) os × (m.body ≡ Query r.ask key)

-- the read was open under this tail, which isn't due a query for it, or is asked now
abbrev Inquiring : OpenRead → ℕ → Due → ServerState → List Output → Type 0
Inquiring r j d s os = (In r s.asks × (tail_of s ≡ Some j) × (In r d.unasked → ⊥)) ⊎ Asks r j os

sent_query : (c : Cause) (d : Due) (s : ServerState) (to : ℕ) (body : Body) (r : OpenRead) (j : ℕ)
    → MaySend c s to body
    → IsTurnOf body d
    → In r s.asks
    → tail_of s ≡ Some j
    → (In r (due_after body d).unasked → ⊥)
    → Inquiring r j d s (message_to s (Some to) body)
sent_query c d s to (Op id call) r j g t i e never = inl (i, e, never)
sent_query c d s to (Forward x) r j g t i e never = inl (i, e, never)
sent_query c d s to (Ack k) r j g t i e never = inl (i, e, never)
sent_query c d s to (Answer ask k) r j g t i e never = inl (i, e, never)
sent_query c d s to (Query ask key) r j g t i e never =
    let there : to ≡ j = same_Some to j (sym g.0 ∙ e) in
    elim (cases_eq ask r.ask) [
      | inl same ↦ inr (
        record { view = s.view; body = Query ask key },
        key,
        (0, ap (λ n. Some (To n (record { view = s.view; body = Query ask key }))) there),
        ap (λ k. Query k key) same,
      )
      | inr other ↦ inl (
        i,
        e,
        λ k. elim (in_more _ t.2 r (subst (λ rs. In r rs) t.3 k)) [
          | inl is ↦ other (sym (ap (λ (x : OpenRead). x.ask) is))
          | inr more ↦ never (subst (λ rs. In r rs) (sym (ap (λ (rs : List OpenRead). but_first rs) t.3)) more)
        ],
      )
    ]

kept_asks : (s : ServerState) (v : View) (r : OpenRead) → In r (widened s v).asks → In r s.asks
unfolding widened
kept_asks s v r i = i

widened_query : (d : Due) (s : ServerState) (v : View) (r : OpenRead) (j : ℕ)
    → d ≡ nothing_due s
    → In r s.asks
    → tail_of (widened s v) ≡ Some j
    → (In r (cond (is_same (tail_of s) (tail_of (widened s v))) [] s.asks) → ⊥)
    → Inquiring r j d s []
widened_query d s v r j t i e never = elim (cases_Bool (is_same (tail_of s) (tail_of (widened s v)))) [
  | inl same ↦ inl (i, same_is _ _ same ∙ e, λ k. (let none = (subst (λ (x : Due). In r x.unasked) t k).1 in cc))
  | inr other ↦ absurd (never (rw other i))
]

act_query : (c : Cause) (d : Due) (s : ServerState) (a : Action) (r : OpenRead) (j : ℕ)
    → Guard c s a
    → IsTurn d s a
    → In r (act s a).state.asks
    → tail_of (act s a).state ≡ Some j
    → (In r (due d s a).unasked → ⊥)
    → Inquiring r j d s (act s a).outputs
unfolding act appended entered asked trimmed
act_query c d s (Widen v) r j g t i e never = widened_query d s v r j t (kept_asks s v r i) e never
act_query c d s (Append x) r j g t i e never = inl (i, e, never)
act_query c d s (Reach k) r j g t i e never = inl (i, e, never)
act_query c d s (Settle x) r j g t i e never = inl (i, e, never)
act_query c d s (Send to body) r j g t i e never = sent_query c d s to body r j g.0 t i e never
act_query c d s (Finish q k) r j g t i e never = inl (in_without _ s.asks r i, e, never)
act_query c d s Trim r j g t i e never = inl (i, e, never)
act_query c d s (Enter port call) r j g t i e never = inl (i, e, never)
act_query c d s (Ask port key) r j g t i e never = elim (in_pushed s.asks _ r i) [
  | inl old ↦ inl (old, e, λ k. never (in_front d.unasked _ r k))
  | inr new ↦ absurd (never (subst (λ x. In r (d.unasked ++ x ∷ [])) new (in_behind d.unasked (r ∷ []) r (0, refl))))
]
act_query c d s (Show port key) r j g t i e never = inl (i, e, never)

does_query : (actions : List Action) (c : Cause) (d : Due) (s : ServerState) (r : OpenRead) (j : ℕ)
    → AreGuarded c s actions
    → AreInTurn d s actions
    → In r (does s actions).state.asks
    → tail_of (does s actions).state ≡ Some j
    → (In r (due_in_the_end d s actions).unasked → ⊥)
    → Inquiring r j d s (does s actions).outputs
unfolding does
does_query [] c d s r j g t i e never = inl (i, e, never)
does_query (a ∷ later) c d s r j g t i e never =
    let u = (act s a).state in
    elim (does_query later (left c) (due d s a) u r j g.2 t.1 i e never) [
      | inr x ↦ inr (x.0, x.1, in_behind (act s a).outputs (does u later).outputs (To j x.0) x.2, x.3)
      | inl x ↦ elim (act_query c d s a r j g.1 t.0 x.0 x.1 x.2) [
        | inl q ↦ inl q
        | inr q ↦ inr (q.0, q.1, in_front (act s a).outputs (does u later).outputs (To j q.0) q.2, q.3)
      ]
    ]

-- the read was open under this tail, or the tail is asked
abbrev pub Inquires : ServerState → RuleResult → Type 0
Inquires s o = (r : OpenRead) (j : ℕ) → In r o.state.asks → tail_of o.state ≡ Some j
    → (In r s.asks × (tail_of s ≡ Some j)) ⊎ Asks r j o.outputs

inquires_does : (actions : List Action) (c : Cause) (s : ServerState)
    → AreGuarded c s actions
    → AreInTurn (nothing_due s) s actions
    → IsPaid (does s actions).state (due_in_the_end (nothing_due s) s actions)
    → Inquires s (does s actions)
inquires_does actions c s g t p r j i e =
    let u = (does s actions).state in
    let other : is_tail u ≡ false =
    false_from_ne_true _ (λ l. (let none = (subst (λ rs. In r rs) (p.last l).1 i).1 in cc)) in
    elim (does_query actions c (nothing_due s) s r j g t i e
    (λ k. (let none = (subst (λ rs. In r rs) (p.asked other) k).1 in cc)))
    [ inl x ↦ inl (x.0, x.1) | inr x ↦ inr x ]

-- what a step asks of the tail
pub inquires_step : (s : ServerState) (input : Input)
    → IsLawful s
    → IsInput input
    → HoldsEntry input
    → Inquires s (step s input)
inquires_step s input h fit valid =
    let w = step_whole s input h fit valid in
    let xs = w.done.actions in
    subst (λ o. Inquires s o) (sym w.done.same)
    (inquires_does xs (Some input) s w.done.guarded w.turns
    (subst (λ (o : RuleResult). IsPaid o.state (due_in_the_end (nothing_due s) s xs)) w.done.same w.paid))
