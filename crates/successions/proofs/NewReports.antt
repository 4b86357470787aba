-- What holds of a generation still holds if a member reports how it is.
use Rattle.std.proofs.Common.{◌≡◌, ◌≢◌, ℕ, ◌<◌, ◌≤◌, ◌⊎◌, inl, inr, true, false, List, ◌∷◌, Some}
use Rattle.std.proofs.Common.{ap, sym, ◌∙◌, subst, arith}
use Rattle.leases.specs.Sets.{has}
use Rattle.successions.specs.declared.members.Members.{Members}
use Rattle.successions.specs.declared.members.Acceptance.{Acceptance}
use Rattle.successions.specs.declared.orders.Phase.TheVariants.{Switched}
use Rattle.successions.specs.declared.stages.Stage.{Stage}
use Rattle.successions.specs.declared.stages.Stage.TheVariants.{Looking, Resuming}
use Rattle.successions.specs.Successions.{acceptance_of}
use Rattle.successions.specs.Decisions.{is_member}
use Rattle.successions.specs.Lives.{Sent, Life}
use Rattle.successions.proofs.Soundness.{proposed_of, IsChosen, IsThatOrVoid}
use Rattle.successions.proofs.Soundness.{IsSoundReport, AreInTurn, IsSound}
use Rattle.successions.proofs.Looks.{not_both, same_some, none_some}

-- A report says how its member is now.
pub record IsCurrent (w : Life) (s : Sent) : Type 0 where
  pub epoch : s.report.epoch ≡ (w.members s.from).epoch
  pub phase : s.report.phase ≡ (w.members s.from).phase
  pub view : s.report.standing.view ≡ w.views s.from

-- what was chosen still is
chosen_stays : (all : ℕ) (reports : List Sent) (s : Sent) (q : ℕ) (next : Members) → IsChosen all reports q next
    → IsChosen all (s ∷ reports) q next
chosen_stays all reports s q next c = record {
  gone = c.gone;
  some = c.some;
  all = λ i member within. let v = c.all i member within in record {
    report = v.report;
    sent = inr v.sent;
    epoch = v.epoch;
    accepted = v.accepted;
    view = v.view;
  };
}

-- a report of another epoch chooses nothing
chosen_before : (all : ℕ) (reports : List Sent) (s : Sent) (q : ℕ) (next : Members) → (s.report.epoch ≢ q)
    → IsChosen all (s ∷ reports) q next → IsChosen all reports q next
chosen_before all reports s q next other c = record {
  gone = c.gone;
  some = c.some;
  all = λ i member within. let v = c.all i member within in record {
    report = v.report;
    sent = elim v.sent [
      | inl same ↦ absurd (other (sym (ap (λ (t : Sent). t.report.epoch) same) ∙ v.epoch))
      | inr old ↦ old
    ];
    epoch = v.epoch;
    accepted = v.accepted;
    view = v.view;
  };
}

proposed_acts : (stage : Stage) (next : Members) → proposed_of stage ≡ Some next → stage ≢ Looking
proposed_acts stage next is looks = none_some (ap proposed_of looks) is

resuming_acts : (stage : Stage) → stage ≡ Resuming → stage ≢ Looking
resuming_acts stage is looks = resuming_looking (sym is ∙ looks)
  where
    resuming_looking : Resuming ≡ Looking → ⊥
    resuming_looking e = cc

pub member_reports : (all : ℕ) (w : Life) (s : Sent) → IsSound all w → w.gone s.from ≡ false
    → is_member all s.from ≡ true → IsCurrent w s → IsSound all (record w { reports = s ∷ w.reports })
member_reports all w s sound lives member now = record {
  members = sound.members;
  faithful = λ k. record {
    accepted = λ q next a c is less.
        (sound.faithful k).accepted q next a
        (before q next a.epoch less (acts a ((sound.members k).proposed a is)) c) is less;
    resumed = λ q next c less. elim (sound.members k).resumed [
      | inl none ↦ absurd (omega (arith, less, none))
      | inr is ↦ (sound.faithful k).resumed q next
          (before q next (w.members k).resumed less (resuming_acts (w.masters (w.members k).resumed).stage is) c) less
    ];
  };
  views = sound.views;
  reports = λ t among. elim among [
    | inl same ↦ subst (λ u. IsSoundReport w.masters (w.members u.from) (w.views u.from) u) (sym same) new
    | inr old ↦ sound.reports t old
  ];
  in_turn = λ t u one other from less. elim one [
    | inl first ↦ elim other [
      | inl second ↦ absurd (omega (
        arith,
        less,
        ap (λ (x : Sent). x.report.epoch) first,
        ap (λ (x : Sent). x.report.epoch) second,
      ))
      | inr second ↦ absurd (late t u first (sound.reports u second) from less)
    ]
    | inr first ↦ elim other [
      | inl second ↦ subst (λ x. AreInTurn (w.members t.from) t x) (sym second)
          (turn t (from ∙ ap (λ (x : Sent). x.from) second) (sound.reports t first))
      | inr second ↦ sound.in_turn t u first second from less
    ]
  ];
  since = λ t among q next a c is less. elim among [
    | inl same ↦ own q next a c (sym (ap (λ (x : Sent). acceptance_of x.report.phase) same) ∙ is) less
    | inr old ↦ sound.since t old q next a
        (before q next a.epoch less (acts a ((sound.reports t old).proposed a is)) c) is less
  ];
  masters = λ r. let old = sound.masters r in record {
    epoch = old.epoch;
    members = old.members;
    knows = λ i report is. inr (old.knows i report is);
    own = old.own;
    views = old.views;
    gone = old.gone;
    ended = old.ended;
    entered = old.entered;
    proposed = λ q next who c less is.
        old.proposed q next who (before q next r less (proposed_acts (w.masters r).stage who is) c) less is;
    resuming = λ q next c less is.
        old.resuming q next (before q next r less (resuming_acts (w.masters r).stage is) c) less is;
    chosen = λ next is. let c = old.chosen next is in (c.0, chosen_stays all w.reports s c.0 next c.1);
  };
  orders = sound.orders;
  started = sound.started;
  opened = λ p next was who. let old = sound.opened p next was who in record {
    order = old.order;
    lasts = record {
      epoch = old.lasts.epoch;
      chosen = chosen_stays all w.reports s old.lasts.epoch next old.lasts.chosen;
      later = λ t a among is less. elim among [
        | inl same ↦ left next ((sound.orders _ old.order.2).1 s.from member) a
            (sym (ap (λ (x : Sent). acceptance_of x.report.phase) same) ∙ is)
        | inr earlier ↦ old.lasts.later t a earlier is less
      ];
    };
  };
  begun = sound.begun;
}
  where
    acts : (a : Acceptance) → proposed_of (w.masters a.epoch).stage ≡ Some a.next → (w.masters a.epoch).stage ≢ Looking
    acts a is = proposed_acts (w.masters a.epoch).stage a.next is

    -- once a master of a later epoch has decided, nothing is chosen in an earlier one
    before : (q : ℕ) (next : Members) (r : ℕ) → q < r → (w.masters r).stage ≢ Looking
        → IsChosen all (s ∷ w.reports) q next → IsChosen all w.reports q next
    before q next r less acted c = chosen_before all w.reports s q next
        (λ same. elim ((sound.masters r).entered acted s.from member) [
          | inl gone ↦ not_both gone lives
          | inr in_epoch ↦ let here : s.report.epoch ≡ (w.members s.from).epoch =
              now.epoch in omega (arith, less, same, in_epoch, here)
        ])
        c

    new : IsSoundReport w.masters (w.members s.from) (w.views s.from) s
    new = record {
      epoch = omega (arith, now.epoch);
      view = λ j is. subst (λ v. has v j ≡ true) now.view is;
      entered = λ a is. omega (
        arith,
        now.epoch,
        (sound.members s.from).entered a (sym (ap acceptance_of now.phase)
            ∙ is),
      );
      proposed = λ a is. (sound.members s.from).proposed a (sym (ap acceptance_of now.phase) ∙ is);
      keeps = λ a is same. inl (record {
        acceptance = a;
        is = sym (ap acceptance_of now.phase) ∙ is;
        since = omega (arith, same);
      });
      switched = λ a is. sym now.phase ∙ is;
    }

    turn : (t : Sent) → t.from ≡ s.from → IsSoundReport w.masters (w.members t.from) (w.views t.from) t
        → AreInTurn (w.members t.from) t s
    turn t from old = record {
      view = λ j is. subst (λ v. has v j ≡ true) (sym now.view)
          (subst (λ k. has (w.views k) j ≡ true) from (old.view j is));
      keeps = λ a is same. elim (old.keeps a is same) [
        | inl since ↦ inl (record {
          acceptance = since.acceptance;
          is = ap acceptance_of now.phase
              ∙ subst (λ k. acceptance_of (w.members k).phase ≡ Some since.acceptance) from since.is;
          since = since.since;
        })
        | inr less ↦ inr less
      ];
    }

    late : (t u : Sent) → t ≡ s → IsSoundReport w.masters (w.members u.from) (w.views u.from) u → t.from ≡ u.from
        → t.report.epoch < u.report.epoch → ⊥
    late t u same old from less =
        let here : u.report.epoch ≤ (w.members s.from).epoch =
        subst (λ k. u.report.epoch ≤ (w.members k).epoch) (sym from ∙ ap (λ (x : Sent). x.from) same) old.epoch in
        let mine : t.report.epoch ≡ s.report.epoch = ap (λ (x : Sent). x.report.epoch) same in
        let current : s.report.epoch ≡ (w.members s.from).epoch = now.epoch in
        omega (arith, less, here, mine, current)

    own : (q : ℕ) (next : Members) (a : Acceptance) → IsChosen all (s ∷ w.reports) q next
        → acceptance_of s.report.phase ≡ Some a → q < a.epoch → IsThatOrVoid w.ended a.next next
    own q next a c is less =
        let accepted = sym (ap acceptance_of now.phase) ∙ is in
        (sound.faithful s.from).accepted q next a
        (before q next a.epoch less (acts a ((sound.members s.from).proposed a accepted)) c) accepted less

    left : (next : Members)
        → (w.gone s.from ≡ true) ⊎ ((b : Acceptance) × ((w.members s.from).phase ≡ Switched b) × (b.next ≡ next))
        → (a : Acceptance) → acceptance_of s.report.phase ≡ Some a → a.next ≡ next
    left next either a is = elim either [
      | inl gone ↦ absurd (not_both gone lives)
      | inr switched ↦
          let same : switched.0 ≡ a = same_some (sym (ap acceptance_of (now.phase ∙ switched.1)) ∙ is) in
          sym (ap (λ (x : Acceptance). x.next) same) ∙ switched.2
    ]
