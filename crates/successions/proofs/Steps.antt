-- What a member's steps keep.
use Rattle.std.proofs.Common.{◌≡◌, ◌≢◌, ℕ, ◌<◌, ◌≤◌, ◌⊎◌, inl, inr, Bool, true, false, ◌&&◌, not, List, None}
use Rattle.std.proofs.Common.{Some}
use Rattle.std.proofs.Common.{refl, ap, sym, ◌∙◌, subst, arith, nat_eq}
use Rattle.std.proofs.lemmas.Bool.{cond_both, cases_order, and_parts, eqb-true}
use Rattle.std.proofs.lemmas.Bool.{false≢true}
use Rattle.successions.specs.declared.members.Members.{Members}
use Rattle.successions.specs.declared.members.Acceptance.{Acceptance}
use Rattle.successions.specs.declared.orders.Phase.{Phase}
use Rattle.successions.specs.declared.orders.Phase.TheVariants.{Started, Serving, Sealed, Switched}
use Rattle.successions.specs.declared.orders.Standing.{Standing}
use Rattle.successions.specs.declared.orders.Order.{Order}
use Rattle.successions.specs.declared.orders.Order.TheVariants.{Seal, Resume, Poll, Switch, Open}
use Rattle.successions.specs.declared.stages.Stage.TheVariants.{Resuming}
use Rattle.successions.specs.Lists.{is_same}
use Rattle.successions.specs.Successions.{SuccessionState, acceptance_of, is_own, is_sealable, is_sealed, is_started}
use Rattle.successions.specs.Successions.{is_quiet}
use Rattle.successions.specs.Successions.{sealed, resumed, switched_to, switched, opened, obeyed}
use Rattle.successions.specs.Decisions.{DecisionState, is_member, switches_to}
use Rattle.successions.specs.Lives.{Sent, Life}
use Rattle.successions.proofs.Basics.{is_same_true}
use Rattle.successions.proofs.Soundness.{accepts, proposed_of, IsThatOrVoid, Keeps}
use Rattle.successions.proofs.Soundness.{IsSoundMember, IsFaithful, IsSoundOrder, IsSoundReport}
use Rattle.successions.proofs.Soundness.{IsSound}
use Rattle.successions.proofs.Looks.{not_both, same_some, none_some}

-- What of a member stays, whatever it does.
pub record Passes (masters : ℕ → DecisionState) (m next : SuccessionState) : Type 0 where
  pub epoch : m.epoch ≤ next.epoch
  pub resumed : m.resumed ≤ next.resumed
  pub switched : (a : Acceptance) → m.phase ≡ Switched a → next.phase ≡ Switched a
  pub keeps : (r : ℕ) → r ≤ m.epoch → (masters r).stage ≢ Resuming → Keeps r m → Keeps r next

-- A member's step is sound.
pub record IsStep (all : ℕ) (w : Life) (m next : SuccessionState) : Type 0 where
  pub sound : IsSoundMember w.masters next
  pub faithful : IsFaithful all w.reports w.ended next
  pub passes : Passes w.masters m next

-- a phase at which something holds isn't one at which it doesn't
at_phase : (test : Phase → Bool) {p q : Phase} → p ≡ q → test p ≡ true → test q ≡ false → ⊥
at_phase test same holds fails = not_both (sym (ap test same) ∙ holds) fails

unsealed : (p : Phase) → is_started p ≡ true → acceptance_of p ≡ None
unsealed Started e = refl
unsealed Serving e = absurd (false≢true e)
unsealed (Sealed a) e = absurd (false≢true e)
unsealed (Switched a) e = absurd (false≢true e)

-- nothing of what matters has changed
pub stays : (all : ℕ) (w : Life) (m next : SuccessionState) → IsSoundMember w.masters m
    → IsFaithful all w.reports w.ended m → m.epoch ≤ next.epoch → next.phase ≡ m.phase → next.resumed ≡ m.resumed
    → IsStep all w m next
stays all w m next s f epoch phase resumed = record {
  sound = record {
    entered = λ a is. omega (arith, s.entered a (sym (ap acceptance_of phase) ∙ is), epoch);
    proposed = λ a is. s.proposed a (sym (ap acceptance_of phase) ∙ is);
    switched = λ a is. s.switched a (sym phase ∙ is);
    resumed_in = omega (arith, s.resumed_in, epoch, resumed);
    resumed = subst (λ k. (k ≡ 0) ⊎ ((w.masters k).stage ≡ Resuming)) (sym resumed) s.resumed;
  };
  faithful = record {
    accepted = λ r v a c is less. f.accepted r v a c (sym (ap acceptance_of phase) ∙ is) less;
    resumed = λ r v c less. f.resumed r v c (subst (λ k. r < k) resumed less);
  };
  passes = record {
    epoch = epoch;
    resumed = omega (arith, resumed);
    switched = λ a is. phase ∙ is;
    keeps = λ r in_epoch unresumed k. elim k [
      | inl since ↦ inl (record {
        acceptance = since.acceptance;
        is = ap acceptance_of phase ∙ since.is;
        since = since.since;
      })
      | inr less ↦ inr (subst (λ k. r < k) (sym resumed) less)
    ];
  };
}

pub unchanged : (all : ℕ) (w : Life) (m : SuccessionState) → IsSoundMember w.masters m
    → IsFaithful all w.reports w.ended m → IsStep all w m m
unchanged all w m s f = stays all w m m s f (omega arith) refl refl

-- it accepts what a master proposed in its epoch
seals : (all : ℕ) (w : Life) (i : ℕ) (r generation : ℕ) (next : Members) → IsSound all w → w.gone i ≡ false
    → is_member all i ≡ true → proposed_of (w.masters r).stage ≡ Some next
    → IsStep all w (w.members i) (sealed (w.members i) r generation next)
seals all w i r generation next sound lives member sent =
    cond_both (is_own m r generation && (not (nat_eq r m.resumed) && is_sealable m.phase))
    (record m { phase = Sealed (accepts r next) }) m (IsStep all w m)
    (λ e. obeys (and_parts (is_own m r generation) (not (nat_eq r m.resumed) && is_sealable m.phase) e))
    (λ e. unchanged all w m (sound.members i) (sound.faithful i))
  where
    m : SuccessionState
    m = w.members i

    obeys : (is_own (w.members i) r generation ≡ true)
        × (not (nat_eq r (w.members i).resumed) && is_sealable (w.members i).phase ≡ true)
        → IsStep all w (w.members i) (record (w.members i) { phase = Sealed (accepts r next) })
    obeys parts =
        let own : r ≡ (w.members i).epoch =
        eqb-true r (w.members i).epoch
        (and_parts (nat_eq r (w.members i).epoch) (nat_eq generation (w.members i).generation) parts.0).0 in
        let sealable = (and_parts (not (nat_eq r (w.members i).resumed)) (is_sealable (w.members i).phase) parts.1).1 in
        record {
          sound = record {
            entered = λ a is. let same : accepts r next ≡ a = same_some is in
                subst (λ b. b.epoch ≤ (w.members i).epoch) same (omega (arith, own));
            proposed = λ a is. let same : accepts r next ≡ a = same_some is in
                subst (λ b. proposed_of (w.masters b.epoch).stage ≡ Some b.next) same sent;
            switched = λ a is. absurd (sealed_switched is);
            resumed_in = (sound.members i).resumed_in;
            resumed = (sound.members i).resumed;
          };
          faithful = record {
            accepted = λ q v a c is less. let same : accepts r next ≡ a = same_some is in
                subst (λ b. IsThatOrVoid w.ended b.next v) same
                (elim ((sound.masters r).proposed q v next c (subst (λ b. q < b.epoch) (sym same) less) sent) [
                  | inl that ↦ that
                  | inr gone ↦ absurd (not_both (gone i member) lives)
                ]);
            resumed = (sound.faithful i).resumed;
          };
          passes = record {
            epoch = omega arith;
            resumed = omega arith;
            switched = λ a is. absurd (at_phase is_sealable is sealable refl);
            keeps = λ q in_epoch unresumed k. inl (record {
              acceptance = accepts r next;
              is = refl;
              since = omega (arith, in_epoch, own);
            });
          };
        }
      where
        sealed_switched : {a b : Acceptance} → Sealed a ≡ Switched b → ⊥
        sealed_switched e = cc

-- it goes on, as a master has it
resumes : (all : ℕ) (w : Life) (i : ℕ) (r generation : ℕ) → IsSound all w → w.gone i ≡ false
    → is_member all i ≡ true → (w.masters r).stage ≡ Resuming
    → IsStep all w (w.members i) (resumed (w.members i) r generation)
resumes all w i r generation sound lives member sent =
    cond_both (is_own m r generation && is_sealed m.phase)
    (record m { phase = Serving; resumed = r }) m (IsStep all w m)
    (λ e. obeys (and_parts (is_own m r generation) (is_sealed m.phase) e))
    (λ e. unchanged all w m (sound.members i) (sound.faithful i))
  where
    m : SuccessionState
    m = w.members i

    none_is : {a : Acceptance} → None ≡ Some a → ⊥
    none_is e = cc

    serving_switched : {a : Acceptance} → Serving ≡ Switched a → ⊥
    serving_switched e = cc

    obeys : (is_own (w.members i) r generation ≡ true) × (is_sealed (w.members i).phase ≡ true)
        → IsStep all w (w.members i) (record (w.members i) { phase = Serving; resumed = r })
    obeys parts =
        let own : r ≡ (w.members i).epoch =
        eqb-true r (w.members i).epoch
        (and_parts (nat_eq r (w.members i).epoch) (nat_eq generation (w.members i).generation) parts.0).0 in
        let before : (w.members i).resumed ≤ (w.members i).epoch = (sound.members i).resumed_in in
        record {
          sound = record {
            entered = λ a is. absurd (none_is is);
            proposed = λ a is. absurd (none_is is);
            switched = λ a is. absurd (serving_switched is);
            resumed_in = omega (arith, own);
            resumed = inr sent;
          };
          faithful = record {
            accepted = λ q v a c is less. absurd (none_is is);
            resumed = λ q v c less. elim ((sound.masters r).resuming q v c less sent) [
              | inl void ↦ void
              | inr gone ↦ absurd (not_both (gone i member) lives)
            ];
          };
          passes = record {
            epoch = omega arith;
            resumed = omega (arith, before, own);
            switched = λ a is. absurd (at_phase is_sealed is parts.1 refl);
            keeps = λ q in_epoch unresumed k. elim (cases_order q r) [
              | inl same ↦ absurd (unresumed (subst (λ k. (w.masters k).stage ≡ Resuming) (sym same) sent))
              | inr either ↦ elim either [
                | inl less ↦ inr less
                | inr more ↦ absurd (omega (arith, more, in_epoch, own))
              ]
            ];
          };
        }

-- what an order to switch makes of a phase: nothing, or what was accepted is switched to
switches_or_not : (p : Phase) (next : Members) (standing : Standing) (count : ℕ)
    → (switched_to p next standing count ≡ p)
    ⊎ ((a : Acceptance) × (p ≡ Sealed a) × (a.next ≡ next) × (switched_to p next standing count ≡ Switched a))
switches_or_not Started next standing count = inl refl
switches_or_not Serving next standing count = inl refl
switches_or_not (Switched a) next standing count = inl refl
switches_or_not (Sealed a) next standing count =
    cond_both (is_same a.next.processes next.processes && is_quiet standing count) (Switched a) (Sealed a)
    (λ p. (p ≡ Sealed a) ⊎ ((b : Acceptance) × (Sealed a ≡ Sealed b) × (b.next ≡ next) × (p ≡ Switched b)))
    (λ e. inr (a, refl, same (and_parts (is_same a.next.processes next.processes) (is_quiet standing count) e).0, refl))
    (λ e. inl refl)
  where
    same : is_same a.next.processes next.processes ≡ true → a.next ≡ next
    same e = ap (λ (xs : List ℕ). let m : Members = record { processes = xs } in m)
        (is_same_true a.next.processes next.processes e)

-- it switches to what it has accepted
switches : (all : ℕ) (w : Life) (i : ℕ) (r generation : ℕ) (next : Members) (count : ℕ) (standing : Standing)
    → IsSound all w → switches_to (w.masters r).stage ≡ Some next
    → IsStep all w (w.members i) (switched (w.members i) r generation next count standing)
switches all w i r generation next count standing sound sent =
    cond_both (is_own m r generation) (record m { phase = switched_to m.phase next standing count }) m (IsStep all w m)
    (λ e. elim (switches_or_not m.phase next standing count) [
      | inl same ↦ subst (λ p. IsStep all w m (record m { phase = p })) (sym same)
          (unchanged all w m (sound.members i) (sound.faithful i))
      | inr it ↦ subst (λ p. IsStep all w m (record m { phase = p })) (sym it.3) (obeys it.0 it.1 it.2)
    ])
    (λ e. unchanged all w m (sound.members i) (sound.faithful i))
  where
    m : SuccessionState
    m = w.members i

    obeys : (a : Acceptance) → (w.members i).phase ≡ Sealed a → a.next ≡ next
        → IsStep all w (w.members i) (record (w.members i) { phase = Switched a })
    obeys a was same = record {
      sound = record {
        entered = λ b is. (sound.members i).entered b (ap acceptance_of was ∙ is);
        proposed = λ b is. (sound.members i).proposed b (ap acceptance_of was ∙ is);
        switched = λ b is. let here : a ≡ b = switched_same is in
            (r, sent ∙ ap Some (sym same) ∙ ap (λ (x : Acceptance). Some x.next) here);
        resumed_in = (sound.members i).resumed_in;
        resumed = (sound.members i).resumed;
      };
      faithful = record {
        accepted = λ q v b c is less. (sound.faithful i).accepted q v b c (ap acceptance_of was ∙ is) less;
        resumed = (sound.faithful i).resumed;
      };
      passes = record {
        epoch = omega arith;
        resumed = omega arith;
        switched = λ b is. absurd (sealed_switched (sym was ∙ is));
        keeps = λ q in_epoch unresumed k. elim k [
          | inl since ↦ inl (record {
            acceptance = since.acceptance;
            is = sym (ap acceptance_of was) ∙ since.is;
            since = since.since;
          })
          | inr less ↦ inr less
        ];
      };
    }
      where
        switched_same : {x y : Acceptance} → Switched x ≡ Switched y → x ≡ y
        switched_same e = cc

        sealed_switched : {x y : Acceptance} → Sealed x ≡ Switched y → ⊥
        sealed_switched e = cc

-- it is open
opens : (all : ℕ) (w : Life) (i : ℕ) (r generation : ℕ) (own : Members) → IsSound all w
    → IsStep all w (w.members i) (opened (w.members i) r generation own)
opens all w i r generation own sound =
    cond_both (is_own m r generation && (is_same own.processes m.own.processes && is_started m.phase))
    (record m { phase = Serving }) m (IsStep all w m)
    (λ e. obeys (and_parts (is_same own.processes m.own.processes) (is_started m.phase)
    (and_parts (is_own m r generation) (is_same own.processes m.own.processes && is_started m.phase) e).1).1)
    (λ e. unchanged all w m (sound.members i) (sound.faithful i))
  where
    m : SuccessionState
    m = w.members i

    none_is : {a : Acceptance} → None ≡ Some a → ⊥
    none_is e = cc

    serving_switched : {a : Acceptance} → Serving ≡ Switched a → ⊥
    serving_switched e = cc

    obeys : is_started (w.members i).phase ≡ true
        → IsStep all w (w.members i) (record (w.members i) { phase = Serving })
    obeys fresh = record {
      sound = record {
        entered = λ a is. absurd (none_is is);
        proposed = λ a is. absurd (none_is is);
        switched = λ a is. absurd (serving_switched is);
        resumed_in = (sound.members i).resumed_in;
        resumed = (sound.members i).resumed;
      };
      faithful = record {
        accepted = λ q v a c is less. absurd (none_is is);
        resumed = (sound.faithful i).resumed;
      };
      passes = record {
        epoch = omega arith;
        resumed = omega arith;
        switched = λ a is. absurd (at_phase is_started is fresh refl);
        keeps = λ q in_epoch unresumed k. elim k [
          | inl since ↦ absurd (none_some (unsealed (w.members i).phase fresh) since.is)
          | inr less ↦ inr less
        ];
      };
    }

-- whatever order comes
pub obeys_soundly : (all : ℕ) (w : Life) (i : ℕ) (order : Order) (standing : Standing) → IsSound all w
    → w.gone i ≡ false
    → is_member all i ≡ true → IsSoundOrder all w.masters w.members w.gone order
    → IsStep all w (w.members i) (obeyed (w.members i) order standing)
obeys_soundly all w i (Seal r generation next) standing sound lives member sent =
    seals all w i r generation next sound lives member sent
obeys_soundly all w i (Resume r generation) standing sound lives member sent =
    resumes all w i r generation sound lives member sent
obeys_soundly all w i (Poll r) standing sound lives member sent =
    unchanged all w (w.members i) (sound.members i) (sound.faithful i)
obeys_soundly all w i (Switch r generation next count) standing sound lives member sent =
    switches all w i r generation next count standing sound sent
obeys_soundly all w i (Open r generation own) standing sound lives member sent =
    opens all w i r generation own sound

-- a report that was sound stays so
pub report_passes : (masters : ℕ → DecisionState) (m next : SuccessionState) (view : ℕ) (s : Sent)
    → Passes masters m next → IsSoundReport masters m view s → IsSoundReport masters next view s
report_passes masters m next view s p old = record {
  epoch = omega (arith, old.epoch, p.epoch);
  view = old.view;
  entered = old.entered;
  proposed = old.proposed;
  keeps = λ a is own. p.keeps s.report.epoch old.epoch (unresumed a is own) (old.keeps a is own);
  switched = λ a is. p.switched a (old.switched a is);
}
  where
    unresumed : (a : Acceptance) → acceptance_of s.report.phase ≡ Some a → a.epoch ≡ s.report.epoch
        → (masters s.report.epoch).stage ≢ Resuming
    unresumed a is own resuming =
        none_some (ap proposed_of resuming)
        (subst (λ k. proposed_of (masters k).stage ≡ Some a.next) own (old.proposed a is))
