-- What holds of a generation still holds if one part of it changes soundly.
use Rattle.std.proofs.Common.{◌≡◌, ℕ, ◌≤◌, inl, inr, Bool, true, ◌∷◌, Some}
use Rattle.std.proofs.Common.{ap, sym, ◌∙◌, subst, arith}
use Rattle.leases.specs.Sets.{has}
use Rattle.successions.specs.declared.members.Members.{Members}
use Rattle.successions.specs.declared.orders.Phase.TheVariants.{Switched}
use Rattle.successions.specs.declared.orders.Order.{Order}
use Rattle.successions.specs.declared.orders.Order.TheVariants.{Seal, Resume, Poll, Switch, Open}
use Rattle.successions.specs.declared.stages.Stage.TheVariants.{Resuming}
use Rattle.successions.specs.Lists.{with_at}
use Rattle.successions.specs.Successions.{SuccessionState}
use Rattle.successions.specs.Decisions.{DecisionState, switches_to}
use Rattle.successions.specs.Lives.{Sent, Life}
use Rattle.successions.proofs.Basics.{changed, changed_at, set_stays}
use Rattle.successions.proofs.Soundness.{proposed_of, AreGone, HaveEnded, IsThatOrVoid, IsSoundMember, IsFaithful}
use Rattle.successions.proofs.Soundness.{IsSoundReport, AreInTurn, IsSoundMaster, IsSoundOrder}
use Rattle.successions.proofs.Soundness.{IsSound}
use Rattle.successions.proofs.Steps.{Passes, IsStep, report_passes}

-- ---- a member takes a step

member_orders : (all : ℕ) (w : Life) (i : ℕ) (next : SuccessionState) → Passes w.masters (w.members i) next
    → (o : Order) → IsSoundOrder all w.masters w.members w.gone o
    → IsSoundOrder all w.masters (with_at w.members i next) w.gone o
member_orders all w i next p (Seal r generation who) sound = sound
member_orders all w i next p (Resume r generation) sound = sound
member_orders all w i next p (Poll r) sound = tt
member_orders all w i next p (Switch r generation who count) sound = sound
member_orders all w i next p (Open r generation who) sound = (
  sound.0,
  λ k member. elim (sound.1 k member) [
    | inl gone ↦ inl gone
    | inr left ↦ inr (
      left.0,
      changed_at (λ (m : SuccessionState). m.phase ≡ Switched left.0) w.members i next k
          (λ e. p.switched left.0 (subst (λ j. (w.members j).phase ≡ Switched left.0) e left.1)) left.1,
      left.2,
    )
  ],
)

pub member_steps : (all : ℕ) (w : Life) (i : ℕ) (next : SuccessionState) → IsSound all w
    → IsStep all w (w.members i) next → IsSound all (record w { members = with_at w.members i next })
member_steps all w i next sound step = record {
  members = changed (λ k m. IsSoundMember w.masters m) w.members i next step.sound sound.members;
  faithful = changed (λ k m. IsFaithful all w.reports w.ended m) w.members i next step.faithful sound.faithful;
  views = sound.views;
  reports = λ s among. changed_at (λ m. IsSoundReport w.masters m (w.views s.from) s) w.members i next s.from
      (λ e. report_passes w.masters (w.members s.from) next (w.views s.from) s
      (subst (λ k. Passes w.masters (w.members k) next) (sym e) step.passes) (sound.reports s among))
      (sound.reports s among);
  in_turn = λ s t one other from less. changed_at (λ m. AreInTurn m s t) w.members i next s.from
      (λ e. turn s t (subst (λ k. Passes w.masters (w.members k) next) (sym e) step.passes)
      (sound.in_turn s t one other from less))
      (sound.in_turn s t one other from less);
  since = sound.since;
  masters = λ r. master r (sound.masters r);
  orders = λ o among. member_orders all w i next step.passes o (sound.orders o among);
  started = sound.started;
  opened = sound.opened;
  begun = sound.begun;
}
  where
    turn : (s t : Sent) → Passes w.masters (w.members s.from) next → AreInTurn (w.members s.from) s t
        → AreInTurn next s t
    turn s t p old = record {
      view = old.view;
      keeps = λ a is own. elim (old.keeps a is own) [
        | inl since ↦ inl since
        | inr less ↦ inr (omega (arith, less, p.resumed))
      ];
    }

    master : (r : ℕ) → IsSoundMaster all w.members w.gone w.ended w.reports r (w.masters r)
        → IsSoundMaster all (with_at w.members i next) w.gone w.ended w.reports r (w.masters r)
    master r old = record {
      epoch = old.epoch;
      members = old.members;
      knows = old.knows;
      own = old.own;
      views = old.views;
      gone = old.gone;
      ended = old.ended;
      entered = λ acts k member. elim (old.entered acts k member) [
        | inl gone ↦ inl gone
        | inr in_epoch ↦ inr (changed_at (λ (m : SuccessionState). r ≤ m.epoch) w.members i next k
            (λ e. let here : r ≤ (w.members i).epoch = subst (λ j. r ≤ (w.members j).epoch) e in_epoch in
            omega (arith, here, step.passes.epoch))
            in_epoch)
      ];
      proposed = old.proposed;
      resuming = old.resuming;
      chosen = old.chosen;
    }

-- ---- a master takes a step

-- What of a master stays, whatever it does.
pub record Follows (d next : DecisionState) : Type 0 where
  pub proposed : (who : Members) → proposed_of d.stage ≡ Some who → proposed_of next.stage ≡ Some who
  pub resuming : d.stage ≡ Resuming → next.stage ≡ Resuming
  pub switches : (who : Members) → switches_to d.stage ≡ Some who → switches_to next.stage ≡ Some who

-- it is at the same stage
pub same_stage : (d next : DecisionState) → next.stage ≡ d.stage → Follows d next
same_stage d next same = record {
  proposed = λ who is. ap proposed_of same ∙ is;
  resuming = λ is. same ∙ is;
  switches = λ who is. ap switches_to same ∙ is;
}

pub master_steps : (all : ℕ) (w : Life) (r : ℕ) (next : DecisionState) → IsSound all w → Follows (w.masters r) next
    → IsSoundMaster all w.members w.gone w.ended w.reports r next
    → IsSound all (record w { masters = with_at w.masters r next })
master_steps all w r next sound follows mine = record {
  members = λ i. record {
    entered = (sound.members i).entered;
    proposed = λ a is. proposed a.epoch a.next ((sound.members i).proposed a is);
    switched = λ a is. let by = (sound.members i).switched a is in (by.0, switches by.0 a.next by.1);
    resumed_in = (sound.members i).resumed_in;
    resumed = elim (sound.members i).resumed [
      | inl none ↦ inl none
      | inr is ↦ inr (resuming (w.members i).resumed is)
    ];
  };
  faithful = sound.faithful;
  views = sound.views;
  reports = λ s among. let old = sound.reports s among in record {
    epoch = old.epoch;
    view = old.view;
    entered = old.entered;
    proposed = λ a is. proposed a.epoch a.next (old.proposed a is);
    keeps = old.keeps;
    switched = old.switched;
  };
  in_turn = sound.in_turn;
  since = sound.since;
  masters = changed (λ k d. IsSoundMaster all w.members w.gone w.ended w.reports k d) w.masters r next mine
      sound.masters;
  orders = λ o among. order o (sound.orders o among);
  started = λ p who is. let old = sound.started p who is in
      record { one = old.one; by = (old.by.0, switches old.by.0 who old.by.1) };
  opened = sound.opened;
  begun = sound.begun;
}
  where
    proposed : (q : ℕ) (who : Members) → proposed_of (w.masters q).stage ≡ Some who
        → proposed_of (with_at w.masters r next q).stage ≡ Some who
    proposed q who is = changed_at (λ (d : DecisionState). proposed_of d.stage ≡ Some who) w.masters r next q
        (λ e. follows.proposed who (subst (λ k. proposed_of (w.masters k).stage ≡ Some who) e is)) is

    resuming : (q : ℕ) → (w.masters q).stage ≡ Resuming → (with_at w.masters r next q).stage ≡ Resuming
    resuming q is = changed_at (λ (d : DecisionState). d.stage ≡ Resuming) w.masters r next q
        (λ e. follows.resuming (subst (λ k. (w.masters k).stage ≡ Resuming) e is)) is

    switches : (q : ℕ) (who : Members) → switches_to (w.masters q).stage ≡ Some who
        → switches_to (with_at w.masters r next q).stage ≡ Some who
    switches q who is = changed_at (λ (d : DecisionState). switches_to d.stage ≡ Some who) w.masters r next q
        (λ e. follows.switches who (subst (λ k. switches_to (w.masters k).stage ≡ Some who) e is)) is

    order : (o : Order) → IsSoundOrder all w.masters w.members w.gone o
        → IsSoundOrder all (with_at w.masters r next) w.members w.gone o
    order (Seal q generation who) is = proposed q who is
    order (Resume q generation) is = resuming q is
    order (Poll q) is = tt
    order (Switch q generation who count) is = switches q who is
    order (Open q generation who) is = (switches q who is.0, is.1)

-- ---- a member is gone

-- all that were gone are
stay_gone : (all : ℕ) (gone : ℕ → Bool) (i : ℕ) → AreGone all gone → AreGone all (with_at gone i true)
stay_gone all gone i are k member = set_stays gone i k (are k member)

pub member_goes : (all : ℕ) (w : Life) (i : ℕ) → IsSound all w → IsSound all (record w { gone = with_at w.gone i true })
member_goes all w i sound = record {
  members = sound.members;
  faithful = sound.faithful;
  views = λ k j is. set_stays w.gone i j (sound.views k j is);
  reports = sound.reports;
  in_turn = sound.in_turn;
  since = sound.since;
  masters = λ r. let old = sound.masters r in record {
    epoch = old.epoch;
    members = old.members;
    knows = old.knows;
    own = old.own;
    views = old.views;
    gone = λ j is. set_stays w.gone i j (old.gone j is);
    ended = old.ended;
    entered = λ acts k member. elim (old.entered acts k member) [
      | inl is ↦ inl (set_stays w.gone i k is)
      | inr in_epoch ↦ inr in_epoch
    ];
    proposed = λ q next own c less is. elim (old.proposed q next own c less is) [
      | inl that ↦ inl that
      | inr are ↦ inr (stay_gone all w.gone i are)
    ];
    resuming = λ q next c less is. elim (old.resuming q next c less is) [
      | inl void ↦ inl void
      | inr are ↦ inr (stay_gone all w.gone i are)
    ];
    chosen = old.chosen;
  };
  orders = λ o among. order o (sound.orders o among);
  started = sound.started;
  opened = sound.opened;
  begun = sound.begun;
}
  where
    order : (o : Order) → IsSoundOrder all w.masters w.members w.gone o
        → IsSoundOrder all w.masters w.members (with_at w.gone i true) o
    order (Seal q generation who) is = is
    order (Resume q generation) is = is
    order (Poll q) is = tt
    order (Switch q generation who count) is = is
    order (Open q generation who) is = (
      is.0,
      λ k member. elim (is.1 k member) [
        | inl gone ↦ inl (set_stays w.gone i k gone)
        | inr left ↦ inr left
      ],
    )

-- ---- a member learns who is gone

pub member_learns : (all : ℕ) (w : Life) (i view : ℕ) → IsSound all w
    → ((j : ℕ) → has view j ≡ true → w.gone j ≡ true)
    → ((j : ℕ) → has (w.views i) j ≡ true → has view j ≡ true)
    → IsSound all (record w { views = with_at w.views i view })
member_learns all w i view sound gone more = record {
  members = sound.members;
  faithful = sound.faithful;
  views = changed (λ k v. (j : ℕ) → has v j ≡ true → w.gone j ≡ true) w.views i view gone sound.views;
  reports = λ s among. let old = sound.reports s among in
      changed_at (λ v. IsSoundReport w.masters (w.members s.from) v s) w.views i view s.from
      (λ e. record {
        epoch = old.epoch;
        view = λ j is. more j (subst (λ k. has (w.views k) j ≡ true) e (old.view j is));
        entered = old.entered;
        proposed = old.proposed;
        keeps = old.keeps;
        switched = old.switched;
      })
      old;
  in_turn = sound.in_turn;
  since = sound.since;
  masters = sound.masters;
  orders = sound.orders;
  started = sound.started;
  opened = sound.opened;
  begun = sound.begun;
}

-- ---- an order is sent

pub order_sent : (all : ℕ) (w : Life) (o : Order) → IsSound all w → IsSoundOrder all w.masters w.members w.gone o
    → IsSound all (record w { orders = o ∷ w.orders })
order_sent all w o sound is = record {
  members = sound.members;
  faithful = sound.faithful;
  views = sound.views;
  reports = sound.reports;
  in_turn = sound.in_turn;
  since = sound.since;
  masters = sound.masters;
  orders = λ p among. elim among [
    | inl same ↦ subst (IsSoundOrder all w.masters w.members w.gone) (sym same) is
    | inr old ↦ sound.orders p old
  ];
  started = sound.started;
  opened = λ p next was who. let old = sound.opened p next was who in
      record { order = (old.order.0, old.order.1, inr old.order.2); lasts = old.lasts };
  begun = sound.begun;
}

-- ---- a process ends

stay_ended : (ended : ℕ → Bool) (i : ℕ) (next : Members) → HaveEnded ended next → HaveEnded (with_at ended i true) next
stay_ended ended i next have p real among = set_stays ended i p (have p real among)

stay_void : (ended : ℕ → Bool) (i : ℕ) (one next : Members) → IsThatOrVoid ended one next
    → IsThatOrVoid (with_at ended i true) one next
stay_void ended i one next is = elim is [ inl same ↦ inl same | inr void ↦ inr (stay_ended ended i next void) ]

pub process_ends : (all : ℕ) (w : Life) (i : ℕ) → IsSound all w
    → IsSound all (record w { ended = with_at w.ended i true })
process_ends all w i sound = record {
  members = sound.members;
  faithful = λ k. let old = sound.faithful k in record {
    accepted = λ r next a c is less. stay_void w.ended i a.next next (old.accepted r next a c is less);
    resumed = λ r next c less. stay_ended w.ended i next (old.resumed r next c less);
  };
  views = sound.views;
  reports = sound.reports;
  in_turn = sound.in_turn;
  since = λ s among r next a c is less. stay_void w.ended i a.next next (sound.since s among r next a c is less);
  masters = λ r. let old = sound.masters r in record {
    epoch = old.epoch;
    members = old.members;
    knows = old.knows;
    own = old.own;
    views = old.views;
    gone = old.gone;
    ended = λ p among. set_stays w.ended i p (old.ended p among);
    entered = old.entered;
    proposed = λ q next own c less is. elim (old.proposed q next own c less is) [
      | inl that ↦ inl (stay_void w.ended i own next that)
      | inr are ↦ inr are
    ];
    resuming = λ q next c less is. elim (old.resuming q next c less is) [
      | inl void ↦ inl (stay_ended w.ended i next void)
      | inr are ↦ inr are
    ];
    chosen = old.chosen;
  };
  orders = sound.orders;
  started = sound.started;
  opened = sound.opened;
  begun = sound.begun;
}
