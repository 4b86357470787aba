-- Whatever happens, all of it still holds.
use Rattle.std.proofs.Common.{◌≡◌, ◌≢◌, ℕ, ◌<◌, ◌≤◌, ◌⊎◌, inl, inr, true, false, ◌&&◌, nat_eq, List, ◌∷◌}
use Rattle.std.proofs.Common.{Option, None, Some}
use Rattle.std.proofs.Common.{refl, ap, sym, ◌∙◌, subst, arith, bit_or, slice_set, zero, suc, []}
use Rattle.std.proofs.Common.{replicate, ◌+◌}
use Rattle.std.proofs.lemmas.Bool.{cases_Bool, cond_both, and_parts, eqb-true, false≢true}
use Rattle.std.proofs.lemmas.List.Elements.{Contains-push_cases}
use Rattle.leases.specs.Sets.{has}
use Rattle.successions.specs.declared.members.Members.{Members}
use Rattle.successions.specs.declared.members.Acceptance.{Acceptance}
use Rattle.successions.specs.declared.orders.Phase.TheVariants.{Serving, Switched}
use Rattle.successions.specs.declared.orders.Report.{Report}
use Rattle.successions.specs.declared.orders.Order.TheVariants.{Switch, Open}
use Rattle.successions.specs.declared.stages.Stage.{Stage}
use Rattle.successions.specs.declared.stages.Stage.TheVariants.{Looking, Resuming, Proposing, Switching, Finishing}
use Rattle.successions.specs.Lists.{Among, with_at}
use Rattle.successions.specs.Successions.{SuccessionState, acceptance_of, entered, obeyed, counted, report_of}
use Rattle.successions.specs.Decisions.{DecisionState, report_at, heard, without, after_end, is_news, is_newer}
use Rattle.successions.specs.Decisions.{is_member, switches_to}
use Rattle.successions.specs.Decisions.{order_of, counts, Tells, HasHeardAll, IsFree, MayPropose, IsDecided, IsBegun}
use Rattle.successions.specs.Decisions.{MayOpen}
use Rattle.successions.specs.Lives.{Sent, Life, begun, standing_of, May, Goes, Learns, Enters, Obeys, Reports, Hears}
use Rattle.successions.specs.Lives.{Loses, Finds}
use Rattle.successions.specs.Lives.{Resumes, Proposes, Decides, Finishes, Sends, SendsOpen, Starts, Opens, Ends}
use Rattle.successions.specs.Lives.{IsReached, Begins, Goes_on}
use Rattle.successions.proofs.Basics.{changed, at_same, either_has, has_either, none_has}
use Rattle.successions.proofs.Soundness.{proposed_of, accepts, IsVote, IsChosen, AreGone, HaveEnded, IsThatOrVoid}
use Rattle.successions.proofs.Soundness.{IsSoundMaster}
use Rattle.successions.proofs.Soundness.{IsSoundOrder, IsStarted, IsOpened, IsSound}
use Rattle.successions.proofs.Looks.{counts_if, counts_member, counts_on, not_both, same_some, none_some, looks_free}
use Rattle.successions.proofs.Looks.{looks_first, looks_entered}
use Rattle.successions.proofs.Steps.{stays, obeys_soundly}
use Rattle.successions.proofs.Changes.{Follows, same_stage, member_steps, master_steps, member_goes, member_learns}
use Rattle.successions.proofs.Changes.{order_sent, process_ends}
use Rattle.successions.proofs.NewReports.{member_reports}

-- ---- masters

no_stage : {A : Type 0} {x : A} → None ≡ Some x → ⊥
no_stage e = cc

-- a report that a master has after it heard one is that one, or one that it had before
report_after : (reports : List (Option Report)) (from : ℕ) (report : Report) (i : ℕ) (found : Report)
    → report_at (slice_set reports from (Some report)) i ≡ Some found
    → (report_at reports i ≡ Some found) ⊎ ((i ≡ from) × (report ≡ found))
report_after [] from report i found is = absurd (no_stage is)
report_after (x ∷ xs) zero report zero found is = inr (refl, same_some is)
report_after (x ∷ xs) zero report (suc i) found is = inl is
report_after (x ∷ xs) (suc from) report zero found is = inl is
report_after (x ∷ xs) (suc from) report (suc i) found is = elim (report_after xs from report i found is) [
  | inl before ↦ inl before
  | inr this ↦ inr (ap suc this.0, this.1)
]

hears : (all : ℕ) (w : Life) (r : ℕ) (s : Sent) → IsSound all w → Among s w.reports
    → IsSoundMaster all w.members w.gone w.ended w.reports r (heard (w.masters r) s.from s.report)
hears all w r s sound among =
    cond_both (is_news d s.from s.report)
    (record d { gone = bit_or d.gone s.report.standing.view; reports = slice_set d.reports s.from (Some s.report) }) d
    (IsSoundMaster all w.members w.gone w.ended w.reports r)
    (λ e. news (eqb-true s.report.epoch d.epoch (and_parts (nat_eq s.report.epoch d.epoch)
    (nat_eq s.report.generation d.generation && is_newer s.report (report_at d.reports s.from)) e).0))
    (λ e. sound.masters r)
  where
    d : DecisionState
    d = w.masters r

    old : IsSoundMaster all w.members w.gone w.ended w.reports r (w.masters r)
    old = sound.masters r

    news : s.report.epoch ≡ (w.masters r).epoch → IsSoundMaster all w.members w.gone w.ended w.reports r
        (record (w.masters r) {
          gone = bit_or (w.masters r).gone s.report.standing.view;
          reports = slice_set (w.masters r).reports s.from (Some s.report);
        })
    news mine = record {
      epoch = old.epoch;
      members = old.members;
      knows = λ i report is. elim (report_after (w.masters r).reports s.from s.report i report is) [
        | inl before ↦ old.knows i report before
        | inr this ↦ subst (λ k. Among (record { from = k; report = report }) w.reports) (sym this.0)
            (subst (λ x. Among (record { from = s.from; report = x }) w.reports) this.1 among)
      ];
      own = λ i report is. elim (report_after (w.masters r).reports s.from s.report i report is) [
        | inl before ↦ old.own i report before
        | inr this ↦ sym (ap (λ (x : Report). x.epoch) this.1) ∙ mine ∙ old.epoch
      ];
      views = λ i report is j named. elim (report_after (w.masters r).reports s.from s.report i report is) [
        | inl before ↦ has_either (w.masters r).gone s.report.standing.view j (inl (old.views i report before j named))
        | inr this ↦ has_either (w.masters r).gone s.report.standing.view j
            (inr (subst (λ (x : Report). has x.standing.view j ≡ true) (sym this.1) named))
      ];
      gone = λ j named. elim (either_has (w.masters r).gone s.report.standing.view j named) [
        | inl known ↦ old.gone j known
        | inr told ↦ sound.views s.from j ((sound.reports s among).view j told)
      ];
      ended = old.ended;
      entered = old.entered;
      proposed = old.proposed;
      resuming = old.resuming;
      chosen = old.chosen;
    }

heard_stage : (d : DecisionState) (from : ℕ) (report : Report) → (heard d from report).stage ≡ d.stage
heard_stage d from report =
    cond_both (is_news d from report)
    (record d { gone = bit_or d.gone report.standing.view; reports = slice_set d.reports from (Some report) }) d
    (λ x. x.stage ≡ d.stage) (λ e. refl) (λ e. refl)

loses : (all : ℕ) (w : Life) (r gone : ℕ) → IsSound all w → ((j : ℕ) → has gone j ≡ true → w.gone j ≡ true)
    → IsSoundMaster all w.members w.gone w.ended w.reports r (without (w.masters r) gone)
loses all w r gone sound are = let old = sound.masters r in record {
  epoch = old.epoch;
  members = old.members;
  knows = old.knows;
  own = old.own;
  views = λ i report is j named. has_either (w.masters r).gone gone j (inl (old.views i report is j named));
  gone = λ j named. elim (either_has (w.masters r).gone gone j named) [
    | inl known ↦ old.gone j known
    | inr told ↦ are j told
  ];
  ended = old.ended;
  entered = old.entered;
  proposed = old.proposed;
  resuming = old.resuming;
  chosen = old.chosen;
}

finds_ended : (all : ℕ) (w : Life) (r p : ℕ) → IsSound all w → w.ended p ≡ true
    → IsSoundMaster all w.members w.gone w.ended w.reports r (after_end (w.masters r) p)
finds_ended all w r p sound is = let old = sound.masters r in record {
  epoch = old.epoch;
  members = old.members;
  knows = old.knows;
  own = old.own;
  views = old.views;
  gone = old.gone;
  ended = λ q among. elim (Contains-push_cases (w.masters r).ended p q among) [
    | inl before ↦ old.ended q before
    | inr same ↦ subst (λ k. w.ended k ≡ true) same is
  ];
  entered = old.entered;
  proposed = old.proposed;
  resuming = old.resuming;
  chosen = old.chosen;
}

-- a master that looked goes on to any stage
from_looking : (d next : DecisionState) → d.stage ≡ Looking → Follows d next
from_looking d next looks = record {
  proposed = λ who is. absurd (none_some (ap proposed_of looks) is);
  resuming = λ is. absurd (looking_resuming (sym looks ∙ is));
  switches = λ who is. absurd (none_some (ap switches_to looks) is);
}
  where
    looking_resuming : Looking ≡ Resuming → ⊥
    looking_resuming e = cc

-- what was proposed may be switched to
from_proposing : (d : DecisionState) (own : Members) (count : ℕ) → d.stage ≡ Proposing own
    → Follows d (record d { stage = Switching own count })
from_proposing d own count was = record {
  proposed = λ who is. sym (ap proposed_of was) ∙ is;
  resuming = λ is. absurd (proposing_resuming (sym was ∙ is));
  switches = λ who is. absurd (none_some (ap switches_to was) is);
}
  where
    proposing_resuming : {x : Members} → Proposing x ≡ Resuming → ⊥
    proposing_resuming e = cc

-- A stage that a master may go on to.
record IsStage (all : ℕ) (w : Life) (r : ℕ) (stage : Stage) : Type 0 where
  entered : (i : ℕ) → is_member all i ≡ true → (w.gone i ≡ true) ⊎ (r ≤ (w.members i).epoch)
  proposed : (q : ℕ) (next own : Members) → IsChosen all w.reports q next → q < r
      → proposed_of stage ≡ Some own → IsThatOrVoid w.ended own next ⊎ AreGone all w.gone
  resuming : (q : ℕ) (next : Members) → IsChosen all w.reports q next → q < r
      → stage ≡ Resuming → HaveEnded w.ended next ⊎ AreGone all w.gone
  chosen : (next : Members) → switches_to stage ≡ Some next → (q : ℕ) × IsChosen all w.reports q next

staged : (all : ℕ) (w : Life) (r : ℕ) (stage : Stage) → IsSound all w → IsStage all w r stage
    → IsSoundMaster all w.members w.gone w.ended w.reports r (record (w.masters r) { stage = stage })
staged all w r stage sound is = let old = sound.masters r in record {
  epoch = old.epoch;
  members = old.members;
  knows = old.knows;
  own = old.own;
  views = old.views;
  gone = old.gone;
  ended = old.ended;
  entered = λ acts. is.entered;
  proposed = is.proposed;
  resuming = is.resuming;
  chosen = is.chosen;
}

resumes_soundly : (all : ℕ) (w : Life) (r : ℕ) → IsSound all w → IsFree (w.masters r) → IsStage all w r Resuming
resumes_soundly all w r sound free = record {
  entered = looks_entered all w r sound free.unswitched.heard;
  proposed = λ q next own c less is. absurd (no_stage is);
  resuming = λ q next c less is. looks_free all w r q next sound c less free;
  chosen = λ next is. absurd (no_stage is);
}

first_heard : (d : DecisionState) (own : Members) → MayPropose d own → HasHeardAll d
first_heard d own may = elim may [ inl free ↦ free.unswitched.heard | inr adopted ↦ adopted.unswitched.heard ]

first_looks : (d : DecisionState) (own : Members) → MayPropose d own → d.stage ≡ Looking
first_looks d own may = elim may [ inl free ↦ free.first | inr adopted ↦ adopted.first ]

proposes_soundly : (all : ℕ) (w : Life) (r : ℕ) (own : Members) → IsSound all w → MayPropose (w.masters r) own
    → IsStage all w r (Proposing own)
proposes_soundly all w r own sound may = record {
  entered = looks_entered all w r sound (first_heard (w.masters r) own may);
  proposed = λ q next who c less is. let same : own ≡ who = same_some is in
      subst (λ x. IsThatOrVoid w.ended x next ⊎ AreGone all w.gone) same
      (looks_first all w r q next own sound c less may);
  resuming = λ q next c less is. absurd (proposing_resuming is);
  chosen = λ next is. absurd (no_stage is);
}
  where
    proposing_resuming : {x : Members} → Proposing x ≡ Resuming → ⊥
    proposing_resuming e = cc

decides_soundly : (all : ℕ) (w : Life) (r : ℕ) (own : Members) (count : ℕ) → IsSound all w
    → IsDecided (w.masters r) own count → IsStage all w r (Switching own count)
decides_soundly all w r own count sound decided = record {
  entered = (sound.masters r).entered (λ looks. proposing_looking (sym decided.proposed ∙ looks));
  proposed = λ q next who c less is. (sound.masters r).proposed q next who c less (ap proposed_of decided.proposed
      ∙ is);
  resuming = λ q next c less is. absurd (switching_resuming is);
  chosen = λ next is. let same : own ≡ next = same_some is in (r, subst (IsChosen all w.reports r) same choice);
}
  where
    proposing_looking : {x : Members} → Proposing x ≡ Looking → ⊥
    proposing_looking e = cc

    switching_resuming : {x : Members} {n : ℕ} → Switching x n ≡ Resuming → ⊥
    switching_resuming e = cc

    counting : (i : ℕ) → is_member all i ≡ true → has (w.masters r).gone i ≡ false → counts (w.masters r) i ≡ true
    counting i member on =
        counts_if (w.masters r) i (subst (λ m. is_member m i ≡ true) (sym (sound.masters r).members) member) on

    vote : (i : ℕ) → (report : Report) → Tells (w.masters r) i report → IsVote w.reports i r own (w.masters r).gone
    vote i report tells = let ready = decided.agreed.ready i report tells in record {
      report = report;
      sent = (sound.masters r).knows i report tells.told;
      epoch = (sound.masters r).own i report tells.told;
      accepted = ap acceptance_of ready.accepted ∙ ap (λ k. Some (accepts k own)) (sound.masters r).epoch;
      view = ready.view;
    }

    choice : IsChosen all w.reports r own
    choice = record {
      gone = (w.masters r).gone;
      some = let one = decided.agreed.heard.some in (
        one.0,
        subst (λ m. is_member m one.0 ≡ true) (sound.masters r).members (counts_member (w.masters r) one.0 one.1),
        counts_on (w.masters r) one.0 one.1,
      );
      all = λ i member on. let told = decided.agreed.heard.all i (counting i member on) in vote i told.0 told.1;
    }

finishes_soundly : (all : ℕ) (w : Life) (r : ℕ) (own : Members) (count : ℕ) → IsSound all w
    → IsBegun (w.masters r) own count → IsStage all w r (Finishing own count)
finishes_soundly all w r own count sound begun = record {
  entered = looks_entered all w r sound begun.heard;
  proposed = λ q next who c less is. absurd (no_stage is);
  resuming = λ q next c less is. absurd (finishing_resuming is);
  chosen = λ next is. let same : own ≡ next = same_some is in
      subst (λ x. (q : ℕ) × IsChosen all w.reports q x) same
      (let by = (sound.members begun.by).switched (accepts begun.epoch own) ((sound.reports _
      ((sound.masters r).knows begun.by begun.report begun.tells.told)).switched
      (accepts begun.epoch own) begun.switched) in
      (sound.masters by.0).chosen own by.1);
}
  where
    finishing_resuming : {x : Members} {n : ℕ} → Finishing x n ≡ Resuming → ⊥
    finishing_resuming e = cc

-- ---- orders

sends_soundly : (all : ℕ) (w : Life) (r : ℕ) → IsSound all w
    → IsSoundOrder all w.masters w.members w.gone (order_of (w.masters r) (w.masters r).stage)
sends_soundly all w r sound = by (w.masters r).stage refl
  where
    in_epoch : (test : Stage → Type 0) → test (w.masters r).stage → test (w.masters (w.masters r).epoch).stage
    in_epoch test is = subst (λ k. test (w.masters k).stage) (sym (sound.masters r).epoch) is

    by : (stage : Stage) → (w.masters r).stage ≡ stage
        → IsSoundOrder all w.masters w.members w.gone (order_of (w.masters r) stage)
    by Looking is = tt
    by Resuming is = in_epoch (λ stage. stage ≡ Resuming) is
    by (Proposing next) is = in_epoch (λ stage. proposed_of stage ≡ Some next) (ap proposed_of is)
    by (Switching next count) is = in_epoch (λ stage. switches_to stage ≡ Some next) (ap switches_to is)
    by (Finishing next count) is = in_epoch (λ stage. switches_to stage ≡ Some next) (ap switches_to is)

opens_soundly : (all : ℕ) (w : Life) (r generation : ℕ) (next : Members) → IsSound all w → MayOpen (w.masters r) next
    → IsSoundOrder all w.masters w.members w.gone (Open r generation next)
opens_soundly all w r generation next sound may = (
  may.chosen,
  λ i member. elim (cases_Bool (has (w.masters r).gone i)) [
    | inl known ↦ inl ((sound.masters r).gone i known)
    | inr on ↦ inr (left i (may.switched i
        (counts_if (w.masters r) i (subst (λ m. is_member m i ≡ true) (sym (sound.masters r).members) member) on)))
  ],
)
  where
    left : (i : ℕ)
        → ((report : Report) × (a : Acceptance) × Tells (w.masters r) i report × (report.phase ≡ Switched a)
        × (a.next ≡ next))
        → (a : Acceptance) × ((w.members i).phase ≡ Switched a) × (a.next ≡ next)
    left i it = (it.1, (sound.reports _ ((sound.masters r).knows i it.0 it.2.told)).switched it.1 it.3, it.4)

-- ---- processes

process_starts : (all : ℕ) (w : Life) (p : ℕ) (next : Members) → IsSound all w → w.started p ≡ None
    → IsStarted w.masters p next → IsSound all (record w { started = with_at w.started p (Some next) })
process_starts all w p next sound fresh is = record {
  members = sound.members;
  faithful = sound.faithful;
  views = sound.views;
  reports = sound.reports;
  in_turn = sound.in_turn;
  since = sound.since;
  masters = sound.masters;
  orders = sound.orders;
  started = changed (λ k o. (who : Members) → o ≡ Some who → IsStarted w.masters k who) w.started p (Some next)
      (λ who same. subst (IsStarted w.masters p) (same_some same) is) sound.started;
  opened = changed (λ k o. (who : Members) → w.opened k ≡ true → o ≡ Some who → IsOpened all w.orders w.reports who)
      w.started p (Some next) (λ who was same. absurd (sound.begun p was fresh)) sound.opened;
  begun = changed (λ k o. w.opened k ≡ true
      → o ≢ None) w.started p (Some next) (λ was none. no_stage (sym none)) sound.begun;
}

process_opens : (all : ℕ) (w : Life) (p r generation : ℕ) (next : Members) → IsSound all w → w.ended p ≡ false
    → w.started p ≡ Some next → Among (Open r generation next) w.orders
    → IsSound all (record w { opened = with_at w.opened p true })
process_opens all w p r generation next sound lives started ordered = record {
  members = sound.members;
  faithful = sound.faithful;
  views = sound.views;
  reports = sound.reports;
  in_turn = sound.in_turn;
  since = sound.since;
  masters = sound.masters;
  orders = sound.orders;
  started = sound.started;
  opened = changed (λ k o. (who : Members) → o ≡ true → w.started k ≡ Some who → IsOpened all w.orders w.reports who)
      w.opened p true
      (λ who was is. subst (IsOpened all w.orders w.reports) (same_some (sym started ∙ is)) mine)
      sound.opened;
  begun = changed (λ k o. o ≡ true
      → w.started k ≢ None) w.opened p true (λ was none. none_some none started) sound.begun;
}
  where
    choice : (q : ℕ) × IsChosen all w.reports q next
    choice = (sound.masters r).chosen next (sound.orders (Open r generation next) ordered).0

    mine : IsOpened all w.orders w.reports next
    mine = record {
      order = (r, generation, ordered);
      lasts = record {
        epoch = choice.0;
        chosen = choice.1;
        later = λ s a among is less. elim (sound.since s among choice.0 next a choice.1 is less) [
          | inl same ↦ same
          | inr void ↦ let one = (sound.started p next started).one in absurd (not_both (void p one.0 one.1) lives)
        ];
      };
    }

-- ---- all that may happen

keeps : (all : ℕ) (w next : Life) → IsSound all w → May all w next → IsSound all next
keeps all w next sound (Goes i) = member_goes all w i sound
keeps all w next sound (Learns i view lives gone more) = member_learns all w i view sound gone more
keeps all w next sound (Enters i r lives) =
    member_steps all w i (entered (w.members i) r) sound
    (stays all w (w.members i) (entered (w.members i) r) (sound.members i) (sound.faithful i) (omega arith) refl refl)
keeps all w next sound (Obeys i order last committed idle lives member among) =
    member_steps all w i (obeyed (w.members i) order (standing_of w i last committed idle)) sound
    (obeys_soundly all w i order (standing_of w i last committed idle) sound lives member (sound.orders order among))
keeps all w next sound (Reports i last committed idle lives member) =
    member_reports all (record w { members = with_at w.members i m })
    (record { from = i; report = report_of m (standing_of w i last committed idle) })
    (member_steps all w i m sound
    (stays all w (w.members i) m (sound.members i) (sound.faithful i) (omega arith) refl refl))
    lives member
    (record {
      epoch = ap (λ (x : SuccessionState). x.epoch) (sym (at_same w.members i m));
      phase = ap (λ (x : SuccessionState). x.phase) (sym (at_same w.members i m));
      view = refl;
    })
  where
    m : SuccessionState
    m = counted (w.members i)
keeps all w next sound (Hears r sent among) =
    master_steps all w r (heard (w.masters r) sent.from sent.report) sound
    (same_stage (w.masters r) (heard (w.masters r) sent.from sent.report)
    (heard_stage (w.masters r) sent.from sent.report))
    (hears all w r sent sound among)
keeps all w next sound (Loses r gone are) =
    master_steps all w r (without (w.masters r) gone) sound
    (same_stage (w.masters r) (without (w.masters r) gone) refl) (loses all w r gone sound are)
keeps all w next sound (Finds r p is) =
    master_steps all w r (after_end (w.masters r) p) sound
    (same_stage (w.masters r) (after_end (w.masters r) p) refl) (finds_ended all w r p sound is)
keeps all w next sound (Resumes r free) =
    master_steps all w r (record (w.masters r) { stage = Resuming }) sound
    (from_looking (w.masters r) (record (w.masters r) { stage = Resuming }) free.first)
    (staged all w r Resuming sound (resumes_soundly all w r sound free))
keeps all w next sound (Proposes r own may) =
    master_steps all w r (record (w.masters r) { stage = Proposing own }) sound
    (from_looking (w.masters r) (record (w.masters r) { stage = Proposing own }) (first_looks (w.masters r) own may))
    (staged all w r (Proposing own) sound (proposes_soundly all w r own sound may))
keeps all w next sound (Decides r own count decided) =
    master_steps all w r (record (w.masters r) { stage = Switching own count }) sound
    (from_proposing (w.masters r) own count decided.proposed)
    (staged all w r (Switching own count) sound (decides_soundly all w r own count sound decided))
keeps all w next sound (Finishes r own count begun) =
    master_steps all w r (record (w.masters r) { stage = Finishing own count }) sound
    (from_looking (w.masters r) (record (w.masters r) { stage = Finishing own count }) begun.first)
    (staged all w r (Finishing own count) sound (finishes_soundly all w r own count sound begun))
keeps all w next sound (Sends r) =
    order_sent all w (order_of (w.masters r) (w.masters r).stage) sound (sends_soundly all w r sound)
keeps all w next sound (SendsOpen r own may) =
    order_sent all w (Open r ((w.masters r).generation + 1) own) sound
    (opens_soundly all w r ((w.masters r).generation + 1) own sound may)
keeps all w next sound (Starts p r generation own count lives fresh real one ordered) =
    process_starts all w p own sound fresh
    (record { one = (real, one); by = (r, sound.orders (Switch r generation own count) ordered) })
keeps all w next sound (Opens p r generation own lives started ordered) =
    process_opens all w p r generation own sound lives started ordered
keeps all w next sound (Ends p) = process_ends all w p sound

-- at first
at_first : (all generation : ℕ) (own : Members) → IsSound all (begun all generation own)
at_first all generation own = record {
  members = λ i. record {
    entered = λ a is. absurd (no_stage is);
    proposed = λ a is. absurd (no_stage is);
    switched = λ a is. absurd (serving_switched is);
    resumed_in = omega arith;
    resumed = inl refl;
  };
  faithful = λ i. record {
    accepted = λ r next a c is less. absurd (no_stage is);
    resumed = λ r next c less. absurd (omega (arith, less));
  };
  views = λ i j named. absurd (none_has j named);
  reports = λ s among. absurd among;
  in_turn = λ s t one other from less. absurd one;
  since = λ s among r next a c is less. absurd among;
  masters = λ r. record {
    epoch = refl;
    members = refl;
    knows = λ i report is. absurd (nothing_at i is);
    own = λ i report is. absurd (nothing_at i is);
    views = λ i report is j named. absurd (nothing_at i is);
    gone = λ j named. absurd (none_has j named);
    ended = λ p among. absurd (omega (arith, among.1));
    entered = λ acts i member. absurd (acts refl);
    proposed = λ q next who c less is. absurd (no_stage is);
    resuming = λ q next c less is. absurd (looking_resuming is);
    chosen = λ next is. absurd (no_stage is);
  };
  orders = λ o among. absurd among;
  started = λ p next is. absurd (no_stage is);
  opened = λ p next was is. absurd (no_stage is);
  begun = λ p was. absurd (false≢true was);
}
  where
    serving_switched : {a : Acceptance} → Serving ≡ Switched a → ⊥
    serving_switched e = cc

    looking_resuming : Looking ≡ Resuming → ⊥
    looking_resuming e = cc

    none_in : (n i : ℕ) {report : Report} → report_at (replicate n None) i ≡ Some report → ⊥
    none_in zero i is = no_stage is
    none_in (suc n) zero is = no_stage is
    none_in (suc n) (suc i) is = none_in n i is

    nothing_at : (i : ℕ) {report : Report} → report_at (replicate 16 None) i ≡ Some report → ⊥
    nothing_at i is = none_in 16 i is

-- and from then on
pub is_sound : (all generation : ℕ) (own : Members) (w : Life) → IsReached all generation own w → IsSound all w
is_sound all generation own w Begins = at_first all generation own
is_sound all generation own w (Goes_on before now reached may) =
    keeps all before now (is_sound all generation own before reached) may
