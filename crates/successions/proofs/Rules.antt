-- What the answers of members make of a master's rule.
use Rattle.std.proofs.Common.{◌≡◌, ◌≢◌, ◌↔◌, ℕ, zero, suc, ◌+◌, ◌<◌, ◌≤◌, ◌⊎◌, inl, inr, Bool, true, false, ◌&&◌, not}
use Rattle.std.proofs.Common.{nat_lt, nat_eq}
use Rattle.std.proofs.Common.{List, Contains, Option, None, Some, IfSome, IfNone, IsTrue, length, slice_index}
use Rattle.std.proofs.Common.{refl, ap, sym, ◌∙◌, subst, arith, add-one}
use Rattle.std.specs.Option.{is_some}
use Rattle.std.proofs.lemmas.Bool.{cases_Bool, cond_both, cond-true, cond-false, cases_order, and_parts, and_from}
use Rattle.std.proofs.lemmas.Bool.{not-true, not-false}
use Rattle.std.proofs.lemmas.Bool.{not_from_true, ltb-true, ltb-false, eq-eqb, false≢true, true≢false}
use Rattle.std.proofs.lemmas.List.{get_or_default}
use Rattle.leases.specs.Sets.{has}
use Rattle.successions.specs.declared.members.Members.{Members}
use Rattle.successions.specs.declared.members.Acceptance.{Acceptance}
use Rattle.successions.specs.declared.orders.Phase.{Phase}
use Rattle.successions.specs.declared.orders.Phase.TheVariants.{Started, Serving, Sealed, Switched}
use Rattle.successions.specs.declared.orders.Report.{Report}
use Rattle.successions.specs.declared.stages.Stage.TheVariants.{Looking}
use Rattle.successions.specs.declared.questions.Question.{Question}
use Rattle.successions.specs.declared.questions.Question.TheVariants.{IsThere, HasSwitched, HasAcceptedNothing}
use Rattle.successions.specs.declared.questions.Question.TheVariants.{IsNotReady, IsElsewhere}
use Rattle.successions.specs.Lists.{is_same}
use Rattle.successions.specs.Successions.{acceptance_of, is_quiet}
use Rattle.successions.specs.Decisions.{DecisionState, report_at, counts, Tells, HasHeardAll, IsUnswitched}
use Rattle.successions.specs.Decisions.{AreEnded, IsHighest}
use Rattle.successions.specs.Decisions.{AreAccepted, IsUnaccepted, IsFree, IsAdopted, IsBegun, IsReady}
use Rattle.successions.specs.Decisions.{AreAgreed, switches_to, MayOpen}
use Rattle.successions.specs.Decisions.{is_switched, is_unaccepted, is_sealed_to, is_switched_to, is_ready, answer_by}
use Rattle.successions.specs.Decisions.{answers, answering}
use Rattle.successions.specs.Decisions.{acceptance_in, accepted_at, higher, highest_below, switched_in}
use Rattle.successions.proofs.Looks.{not_both, same_some, none_some, false_if, counts_member}
use Rattle.successions.proofs.Sames.{members_same, same_members}

cases_option : {A : Type 0} (o : Option A) → (o ≡ None) ⊎ ((x : A) × (o ≡ Some x))
cases_option None = inl refl
cases_option (Some x) = inr (x, refl)

-- who counts has one of the sixteen places
counts_below : (d : DecisionState) (i : ℕ) → counts d i ≡ true → i < 16
counts_below d i is = ltb-true i 16 (and_parts (nat_lt i 16) (has d.members i) (counts_member d i is)).0

-- ---- what was found

-- a report that was found is a newest one, and its answer is yes
pub tells_from : (d : DecisionState) (q : Question) (i : ℕ) (r : Report) → answering d q i ≡ Some r
    → Tells d i r × (answer_by d q (Some r) ≡ true)
tells_from d q i r is = elim (cases_Bool (answers d q i)) [
  | inl e ↦
      let told : report_at d.reports i ≡ Some r = sym (cond-true (answers d q i) (report_at d.reports i) None e) ∙ is in
      let parts = and_parts (counts d i) (answer_by d q (report_at d.reports i)) e in
      (record { counts = parts.0; told = told }, sym (ap (answer_by d q) told) ∙ parts.1)
  | inr e ↦ absurd (none_some (cond-false (answers d q i) (report_at d.reports i) None e) is)
]

-- if none was found each newest report's answer is no
pub none_from : (d : DecisionState) (q : Question) → ((i : ℕ) → i < 16 → answering d q i ≡ None)
    → (i : ℕ) (r : Report) → Tells d i r → answer_by d q (Some r) ≡ false
none_from d q none i r tells = false_if (answer_by d q (Some r)) (λ is.
    none_some (none i (counts_below d i tells.counts))
    (cond-true (answers d q i) (report_at d.reports i) None
    (and_from (counts d i) (answer_by d q (report_at d.reports i)) tells.counts (ap (answer_by d q) tells.told ∙ is))
    ∙ tells.told))

-- ---- whether any has switched

pub switched_has : (p : Phase) → is_switched p ≡ true → (a : Acceptance) × (p ≡ Switched a)
switched_has Started e = absurd (false≢true e)
switched_has Serving e = absurd (false≢true e)
switched_has (Sealed a) e = absurd (false≢true e)
switched_has (Switched a) e = (a, refl)

pub unswitched_iff : (d : DecisionState) (o : Option Report) (b : Bool) → is_some o ≡ not b → d.stage ≡ Looking
    → HasHeardAll d
    → IfSome o (λ r. (i : ℕ) × (answering d HasSwitched i ≡ Some r))
    → IfNone o ((i : ℕ) → i < 16 → answering d HasSwitched i ≡ None)
    → IsTrue b ↔ ((d.stage ≡ Looking) × IsUnswitched d)
unswitched_iff d None true e looks heard found none = (
  λ is. (
    looks,
    record {
      heard = heard;
      none = λ i r a tells switched. not_both (ap is_switched switched) (none_from d HasSwitched none i r tells);
    },
  ),
  λ x. refl,
)
unswitched_iff d None false e looks heard found none = absurd (false≢true e)
unswitched_iff d (Some r) true e looks heard found none = absurd (true≢false e)
unswitched_iff d (Some r) false e looks heard found none = (
  λ is. absurd (false≢true is),
  λ x. let it = tells_from d HasSwitched found.0 r found.1 in
      let has_one = switched_has r.phase it.1 in
      absurd (x.1.none found.0 r has_one.0 it.0 has_one.1),
)

-- ---- whether any has accepted nothing

unaccepted_none : (p : Phase) → is_unaccepted p ≡ true → acceptance_of p ≡ None
unaccepted_none Started e = refl
unaccepted_none Serving e = refl
unaccepted_none (Sealed a) e = absurd (false≢true e)
unaccepted_none (Switched a) e = absurd (false≢true e)

accepted_some : (p : Phase) → is_unaccepted p ≡ false → acceptance_of p ≢ None
accepted_some Started e n = true≢false e
accepted_some Serving e n = true≢false e
accepted_some (Sealed a) e n = none_some n refl
accepted_some (Switched a) e n = none_some n refl

pub are_accepted : (d : DecisionState) (o : Option Report) → is_some o ≡ false
    → IfNone o ((i : ℕ) → i < 16 → answering d HasAcceptedNothing i ≡ None) → AreAccepted d
are_accepted d None e none =
    λ i r tells. accepted_some r.phase (none_from d HasAcceptedNothing none i r tells)
are_accepted d (Some r) e none = absurd (true≢false e)

pub is_unaccepted_one : (d : DecisionState) (o : Option Report) → is_some o ≡ true
    → IfSome o (λ r. (i : ℕ) × (answering d HasAcceptedNothing i ≡ Some r)) → IsUnaccepted d
is_unaccepted_one d None e found = absurd (false≢true e)
is_unaccepted_one d (Some r) e found = let it = tells_from d HasAcceptedNothing found.0 r found.1 in
    record { by = found.0; report = r; tells = it.0; nothing = unaccepted_none r.phase it.1 }

-- ---- what was accepted in the highest epoch

pub highest_more : (d : DecisionState) (n : ℕ) → highest_below d (n + 1) ≡ higher (highest_below d n) (accepted_at d n)
unfolding highest_below
highest_more d n = rw add-one refl

pub highest_none : (d : DecisionState) → None ≡ highest_below d 0
unfolding highest_below
highest_none d = refl

highest_next : (d : DecisionState) (n : ℕ) → highest_below d (suc n) ≡ higher (highest_below d n) (accepted_at d n)
unfolding highest_below
highest_next d n = refl

higher_cases : (o x : Option Acceptance) (a : Acceptance) → higher o x ≡ Some a
    → ((o ≡ Some a) × ((b : Acceptance) → x ≡ Some b → b.epoch ≤ a.epoch))
    ⊎ ((x ≡ Some a) × ((b : Acceptance) → o ≡ Some b → b.epoch < a.epoch))
higher_cases None x a e = inr (e, λ b is. absurd (none_some refl is))
higher_cases (Some one) None a e = inl (e, λ b is. absurd (none_some refl is))
higher_cases (Some one) (Some other) a e = elim (cases_Bool (nat_lt one.epoch other.epoch)) [
  | inl less ↦
      let same : other ≡ a =
      same_some (sym (cond-true (nat_lt one.epoch other.epoch) (Some other) (Some one) less) ∙ e) in
      inr (
        ap Some same,
        λ b is. let this : one ≡ b = same_some is in
            subst (λ (x : Acceptance). b.epoch < x.epoch) same
            (subst (λ (x : Acceptance). x.epoch < other.epoch) this (ltb-true one.epoch other.epoch less)),
      )
  | inr more ↦
      let same : one ≡ a =
      same_some (sym (cond-false (nat_lt one.epoch other.epoch) (Some other) (Some one) more) ∙ e) in
      inl (
        ap Some same,
        λ b is. let this : other ≡ b = same_some is in
            subst (λ (x : Acceptance). b.epoch ≤ x.epoch) same
            (subst (λ (x : Acceptance). x.epoch ≤ one.epoch) this (ltb-false one.epoch other.epoch more)),
      )
]

higher_none : (o x : Option Acceptance) → higher o x ≡ None → (o ≡ None) × (x ≡ None)
higher_none None x e = (refl, e)
higher_none (Some one) None e = absurd (none_some e refl)
higher_none (Some one) (Some other) e =
    cond_both (nat_lt one.epoch other.epoch) (Some other) (Some one)
    (λ o. o ≡ None → (Some one ≡ None) × (Some other ≡ None))
    (λ less is. absurd (none_some is refl)) (λ more is. absurd (none_some is refl)) e

accepted_from : (d : DecisionState) (i : ℕ) (b : Acceptance) → accepted_at d i ≡ Some b
    → (r : Report) × Tells d i r × (acceptance_of r.phase ≡ Some b)
accepted_from d i b is = elim (cases_Bool (counts d i)) [
  | inl e ↦ told e (cases_option (report_at d.reports i))
      (sym (cond-true (counts d i) (acceptance_in (report_at d.reports i)) None e) ∙ is)
  | inr e ↦ absurd (none_some (cond-false (counts d i) (acceptance_in (report_at d.reports i)) None e) is)
]
  where
    told : counts d i ≡ true → (report_at d.reports i ≡ None) ⊎ ((r : Report) × (report_at d.reports i ≡ Some r))
        → acceptance_in (report_at d.reports i) ≡ Some b → (r : Report) × Tells d i r × (acceptance_of r.phase ≡ Some b)
    told e o from = elim o [
      | inl none ↦ absurd (none_some (ap acceptance_in none) from)
      | inr one ↦ (one.0, record { counts = e; told = one.1 }, sym (ap acceptance_in one.1) ∙ from)
    ]

accepted_is : (d : DecisionState) (i : ℕ) (r : Report) (b : Acceptance) → Tells d i r → acceptance_of r.phase ≡ Some b
    → accepted_at d i ≡ Some b
accepted_is d i r b tells is =
    cond-true (counts d i) (acceptance_in (report_at d.reports i)) None tells.counts ∙ ap acceptance_in tells.told ∙ is

none_below : (d : DecisionState) (n : ℕ) → highest_below d n ≡ None → (i : ℕ) → i < n → accepted_at d i ≡ None
none_below d zero e i less = absurd (omega (arith, less))
none_below d (suc n) e i less =
    let both = higher_none (highest_below d n) (accepted_at d n) (sym (highest_next d n) ∙ e) in
    elim (cases_order i n) [
      | inl same ↦ subst (λ k. accepted_at d k ≡ None) (sym same) both.1
      | inr either ↦ elim either [
        | inl lower ↦ none_below d n both.0 i lower
        | inr above ↦ absurd (omega (arith, less, above))
      ]
    ]

-- It is the highest of the first n.
record IsHighestBelow (d : DecisionState) (n : ℕ) (a : Acceptance) : Type 0 where
  by : ℕ
  below : by < n
  has : accepted_at d by ≡ Some a
  most : (i : ℕ) (b : Acceptance) → i < n → accepted_at d i ≡ Some b → b.epoch ≤ a.epoch
  first : (i : ℕ) (b : Acceptance) → i < by → accepted_at d i ≡ Some b → b.epoch < a.epoch

is_highest_below : (d : DecisionState) (n : ℕ) (a : Acceptance) → highest_below d n ≡ Some a → IsHighestBelow d n a
is_highest_below d zero a e = absurd (none_some (sym (highest_none d)) e)
is_highest_below d (suc n) a e =
    elim (higher_cases (highest_below d n) (accepted_at d n) a (sym (highest_next d n) ∙ e)) [
      | inl old ↦ let rest = is_highest_below d n a old.0 in record {
        by = rest.by;
        below = omega (arith, rest.below);
        has = rest.has;
        most = λ i b less is. elim (cases_order i n) [
          | inl same ↦ old.1 b (subst (λ k. accepted_at d k ≡ Some b) same is)
          | inr either ↦ elim either [
            | inl lower ↦ rest.most i b lower is
            | inr above ↦ absurd (omega (arith, less, above))
          ]
        ];
        first = rest.first;
      }
      | inr new ↦ record {
        by = n;
        below = omega arith;
        has = new.0;
        most = λ i b less is. elim (cases_order i n) [
          | inl same ↦
              let this : a ≡ b = same_some (sym new.0 ∙ subst (λ k. accepted_at d k ≡ Some b) same is) in
              subst (λ (x : Acceptance). x.epoch ≤ a.epoch) this (omega arith)
          | inr either ↦ elim either [
            | inl lower ↦ let smaller =
                before (λ x same. is_highest_below d n x same) new.1 i b lower is in omega (arith, smaller)
            | inr above ↦ absurd (omega (arith, less, above))
          ]
        ];
        first = λ i b lower is. before (λ x same. is_highest_below d n x same) new.1 i b lower is;
      }
    ]
  where
    before : ((b : Acceptance) → highest_below d n ≡ Some b → IsHighestBelow d n b)
        → ((b : Acceptance) → highest_below d n ≡ Some b → b.epoch < a.epoch) → (i : ℕ) (b : Acceptance) → i < n
        → accepted_at d i ≡ Some b → b.epoch < a.epoch
    before rest less i b lower is = elim (cases_option (highest_below d n)) [
      | inl none ↦ absurd (none_some (none_below d n none i lower) is)
      | inr one ↦
          let most = (rest one.0 one.1).most i b lower is in
          let under = less one.0 one.1 in
          omega (arith, most, under)
    ]

pub is_highest : (d : DecisionState) (a : Acceptance) → highest_below d 16 ≡ Some a → IsHighest d a
is_highest d a e =
    let it = is_highest_below d 16 a e in
    let from = accepted_from d it.by a it.has in
    record {
      by = it.by;
      report = from.0;
      tells = from.1;
      accepted = from.2;
      most = λ i other b tells is. it.most i b (counts_below d i tells.counts) (accepted_is d i other b tells is);
      first = λ i other b tells is less. it.first i b less (accepted_is d i other b tells is);
    }

pub nothing_highest : (d : DecisionState) (a : Acceptance) → highest_below d 16 ≡ None → IsHighest d a → ⊥
nothing_highest d a e is =
    none_some (none_below d 16 e is.by (counts_below d is.by is.tells.counts))
    (accepted_is d is.by is.report a is.tells is.accepted)

-- there is one highest
one_highest : (d : DecisionState) (a b : Acceptance) → IsHighest d a → IsHighest d b → a ≡ b
one_highest d a b one other = elim (cases_order one.by other.by) [
  | inl same ↦ same_some (sym (accepted_is d one.by one.report a one.tells one.accepted)
      ∙ subst (λ k. accepted_at d k ≡ Some b) (sym same)
      (accepted_is d other.by other.report b other.tells other.accepted))
  | inr either ↦ elim either [
    | inl less ↦
        let under = other.first one.by one.report a one.tells one.accepted less in
        let over = one.most other.by other.report b other.tells other.accepted in
        absurd (omega (arith, under, over))
    | inr more ↦
        let under = one.first other.by other.report b other.tells other.accepted more in
        let over = other.most one.by one.report a one.tells one.accepted in
        absurd (omega (arith, under, over))
  ]
]

-- ---- whether processes have ended

pub ended_all : (ended : List ℕ) (next : Members)
    → ((k : ℕ) → k < length next.processes → slice_index next.processes k ≢ 0
    → Contains ended (slice_index next.processes k))
    → AreEnded ended next
ended_all ended next each p real among =
    let same : slice_index next.processes among.0 ≡ p =
    get_or_default next.processes among.0 0 p among.1 ∙ among.2 in
    subst (Contains ended) same (each among.0 among.1 (λ none. real (sym same ∙ none)))

pub ended_not : (ended : List ℕ) (next : Members)
    → (k : ℕ) × (k < length next.processes) × (slice_index next.processes k ≢ 0)
    × (Contains ended (slice_index next.processes k) → ⊥)
    → AreEnded ended next → ⊥
ended_not ended next one are =
    one.3 (are (slice_index next.processes one.0) one.2
    (one.0, one.1, get_or_default next.processes one.0 (slice_index next.processes one.0) 0 one.1))

-- ---- whether it is free, and what it adopts

pub free_iff : (d : DecisionState) (a : Acceptance) (b : Bool) → (d.stage ≡ Looking) × IsUnswitched d → AreAccepted d
    → highest_below d 16 ≡ Some a → (b ≡ true → AreEnded d.ended a.next) → (b ≡ false → AreEnded d.ended a.next → ⊥)
    → IsTrue b ↔ IsFree d
free_iff d a b looks all e are arent = (
  λ is. record {
    first = looks.0;
    unswitched = looks.1;
    why = inr (record { all = all; highest = a; is = is_highest d a e; ended = are is });
  },
  λ free. elim free.why [
    | inl nothing ↦ absurd (all nothing.by nothing.report nothing.tells nothing.nothing)
    | inr void ↦ elim (cases_Bool b) [
      | inl is ↦ is
      | inr isnt ↦ absurd (arent isnt (subst (λ (x : Acceptance). AreEnded d.ended x.next)
          (one_highest d void.highest a void.is (is_highest d a e)) void.ended))
    ]
  ],
)

pub free_none : (d : DecisionState) → AreAccepted d → highest_below d 16 ≡ None → IsTrue false ↔ IsFree d
free_none d all e = (
  λ is. absurd (false≢true is),
  λ free. elim free.why [
    | inl nothing ↦ absurd (all nothing.by nothing.report nothing.tells nothing.nothing)
    | inr void ↦ absurd (nothing_highest d void.highest e void.is)
  ],
)

pub adopted_is : (d : DecisionState) (a : Acceptance) → (d.stage ≡ Looking) × IsUnswitched d → AreAccepted d
    → highest_below d 16 ≡ Some a → IsAdopted d a.next
adopted_is d a looks all e = record {
  first = looks.0;
  unswitched = looks.1;
  all = all;
  highest = a;
  is = is_highest d a e;
  same = refl;
}

-- ---- whether they agree

ready_is : (epoch : ℕ) (next : Members) (gone count : ℕ) (r : Report) → IsReady epoch next gone count r
    → is_ready epoch next gone count r ≡ true
ready_is epoch next gone count r ready =
    and_from (is_sealed_to epoch next r.phase) (nat_eq r.standing.view gone && is_quiet r.standing count)
    (ap (is_sealed_to epoch next) ready.accepted
    ∙ and_from (nat_eq epoch epoch) (is_same next.processes next.processes) (eq-eqb epoch epoch refl)
    (same_members next next refl))
    (and_from (nat_eq r.standing.view gone) (is_quiet r.standing count) (eq-eqb r.standing.view gone ready.view)
    (and_from r.standing.idle (nat_eq r.standing.last count && nat_eq r.standing.committed count) ready.idle
    (and_from (nat_eq r.standing.last count) (nat_eq r.standing.committed count)
    (eq-eqb r.standing.last count ready.last) (eq-eqb r.standing.committed count ready.committed))))

pub not_ready : (d : DecisionState) (next : Members) (count : ℕ) (r : Report)
    → (i : ℕ) × (answering d (IsNotReady next count) i ≡ Some r)
    → ((i : ℕ) (report : Report) → Tells d i report → IsReady d.epoch next d.gone count report) → ⊥
not_ready d next count r found all =
    let it = tells_from d (IsNotReady next count) found.0 r found.1 in
    not_both (ready_is d.epoch next d.gone count r (all found.0 r it.0))
    (not-true (is_ready d.epoch next d.gone count r) it.1)

pub agreed_some : (d : DecisionState) (next : Members) (o : Option ℕ) (n : ℕ) → HasHeardAll d
    → IfSome o (λ it. (it ≡ n) × ((i : ℕ) (report : Report) → Tells d i report → IsReady d.epoch next d.gone n report))
    → IfSome o (λ count. AreAgreed d next count)
agreed_some d next None n heard found = tt
agreed_some d next (Some m) n heard found = record {
  heard = heard;
  ready = subst (λ k. (i : ℕ) (report : Report) → Tells d i report → IsReady d.epoch next d.gone k report)
      (sym found.0) found.1;
}

pub agreed_none : (d : DecisionState) (next : Members) (o : Option ℕ) (r : Report)
    → (i : ℕ) × (answering d IsThere i ≡ Some r)
    → IfNone o (((i : ℕ) (report : Report) → Tells d i report → IsReady d.epoch next d.gone r.standing.last report) → ⊥)
    → IfNone o ((count : ℕ) → AreAgreed d next count → ⊥)
agreed_none d next (Some m) r found none = tt
agreed_none d next None r found none = λ count agreed.
    let it = tells_from d IsThere found.0 r found.1 in
    none (subst (λ k. (i : ℕ) (report : Report) → Tells d i report → IsReady d.epoch next d.gone k report)
    (sym (agreed.ready found.0 r it.0).last) agreed.ready)

-- ---- whether a switch was begun

pub begun_some : (d : DecisionState) (o : Option (Members × ℕ)) (r : Report) → d.stage ≡ Looking → HasHeardAll d
    → (i : ℕ) × (answering d HasSwitched i ≡ Some r) → o ≡ switched_in r.phase r.standing.last
    → IfSome o (λ it. IsBegun d it.0 it.1)
begun_some d o r looks heard found e =
    let it = tells_from d HasSwitched found.0 r found.1 in
    let one = switched_has r.phase it.1 in
    subst (λ o. IfSome o (λ it. IsBegun d it.0 it.1)) (sym (e ∙ ap (λ p. switched_in p r.standing.last) one.1))
    (record {
      first = looks;
      heard = heard;
      by = found.0;
      report = r;
      tells = it.0;
      epoch = one.0.epoch;
      switched = one.1;
      whole = refl;
    })

-- ---- whether the next generation may be opened

switched_to_has : (next : Members) (p : Phase) → is_switched_to next p ≡ true
    → (a : Acceptance) × (p ≡ Switched a) × (a.next ≡ next)
switched_to_has next Started e = absurd (false≢true e)
switched_to_has next Serving e = absurd (false≢true e)
switched_to_has next (Sealed a) e = absurd (false≢true e)
switched_to_has next (Switched a) e = (a, refl, members_same a.next next e)

pub not_elsewhere : (d : DecisionState) (next : Members) → switches_to d.stage ≡ Some next
    → ((i : ℕ) → i < 16 → answers d (IsElsewhere next) i ≡ false) → MayOpen d next
not_elsewhere d next chosen none = record {
  chosen = chosen;
  switched = λ i is. from i is (cases_option (report_at d.reports i));
}
  where
    from : (i : ℕ) → counts d i ≡ true
        → (report_at d.reports i ≡ None) ⊎ ((r : Report) × (report_at d.reports i ≡ Some r))
        → (report : Report) × (a : Acceptance) × Tells d i report × (report.phase ≡ Switched a) × (a.next ≡ next)
    from i is o = elim o [
      | inl silent ↦ absurd (not_both
          (and_from (counts d i) (answer_by d (IsElsewhere next) (report_at d.reports i)) is
          (ap (answer_by d (IsElsewhere next)) silent))
          (none i (counts_below d i is)))
      | inr one ↦
          let there : is_switched_to next one.0.phase ≡ true =
          not-false (is_switched_to next one.0.phase)
          (false_if (not (is_switched_to next one.0.phase)) (λ away. not_both
          (and_from (counts d i) (answer_by d (IsElsewhere next) (report_at d.reports i)) is
          (ap (answer_by d (IsElsewhere next)) one.1 ∙ away))
          (none i (counts_below d i is)))) in
          let it = switched_to_has next one.0.phase there in
          (one.0, it.0, record { counts = is; told = one.1 }, it.1, it.2)
    ]

pub one_elsewhere : (d : DecisionState) (own : Members) → switches_to d.stage ≡ Some own
    → (i : ℕ) × (answers d (IsElsewhere own) i ≡ true) → (next : Members) → MayOpen d next → ⊥
one_elsewhere d own chosen one next may =
    let parts = and_parts (counts d one.0) (answer_by d (IsElsewhere own) (report_at d.reports one.0)) one.1 in
    let it = may.switched one.0 parts.0 in
    let same : own ≡ next = same_some (sym chosen ∙ may.chosen) in
    let there : is_switched_to own it.0.phase ≡ true =
    ap (is_switched_to own) it.3 ∙ same_members it.1.next own (it.4 ∙ sym same) in
    not_both (sym (ap (answer_by d (IsElsewhere own)) it.2.told) ∙ parts.1)
    (not_from_true (is_switched_to own it.0.phase) there)
