-- What a master's first look at a generation shows: what was chosen in an earlier epoch, or that it is void.
use Rattle.std.proofs.Common.{◌≡◌, ℕ, ◌<◌, ◌≤◌, ◌⊎◌, inl, inr, Bool, true, false, ◌&&◌, not, Option, None}
use Rattle.std.proofs.Common.{Some}
use Rattle.std.proofs.Common.{refl, sym, ◌∙◌, subst, arith, nat_lt}
use Rattle.std.proofs.lemmas.Bool.{cases_Bool, cases_order, and_parts, and_from, and_cases, not-true, not-false}
use Rattle.std.proofs.lemmas.Bool.{not_from_false, ltb-true, true≢false}
use Rattle.leases.specs.Sets.{has}
use Rattle.successions.specs.declared.members.Members.{Members}
use Rattle.successions.specs.declared.members.Acceptance.{Acceptance}
use Rattle.successions.specs.declared.orders.Report.{Report}
use Rattle.successions.specs.Decisions.{DecisionState, is_member, counts, Tells, HasHeardAll, IsHighest}
use Rattle.successions.specs.Decisions.{IsFree, MayPropose}
use Rattle.successions.specs.Lives.{Life}
use Rattle.successions.proofs.Basics.{some_below}
use Rattle.successions.proofs.Soundness.{accepts, proposed_of, IsChosen, AreGone, HaveEnded, IsThatOrVoid}
use Rattle.successions.proofs.Soundness.{IsAcceptedSince, IsSoundMaster, IsSound}

-- it is one of these or those
pub false_if : (a : Bool) → (a ≡ true → ⊥) → a ≡ false
false_if a never = elim (cases_Bool a) [ inl e ↦ absurd (never e) | inr e ↦ e ]

-- two that a value can't both be
pub not_both : {b : Bool} → b ≡ true → b ≡ false → ⊥
not_both one other = true≢false (sym one ∙ other)

-- what is some one thing is no other
pub same_some : {A : Type 0} {x y : A} → Some x ≡ Some y → x ≡ y
same_some e = cc

-- nobody has accepted nothing and something
pub none_some : {A : Type 0} {o : Option A} {x : A} → o ≡ None → o ≡ Some x → ⊥
none_some n s = cc

-- who counts
pub counts_if : (d : DecisionState) (i : ℕ) → is_member d.members i ≡ true → has d.gone i ≡ false → counts d i ≡ true
counts_if d i member on =
    and_from (is_member d.members i) (not (has d.gone i)) member (not_from_false (has d.gone i) on)

pub counts_member : (d : DecisionState) (i : ℕ) → counts d i ≡ true → is_member d.members i ≡ true
counts_member d i is = (and_parts (is_member d.members i) (not (has d.gone i)) is).0

pub counts_on : (d : DecisionState) (i : ℕ) → counts d i ≡ true → has d.gone i ≡ false
counts_on d i is = not-true (has d.gone i) (and_parts (is_member d.members i) (not (has d.gone i)) is).1

-- Whoever was left out of a choice is gone.
pub left_out : (all : ℕ) (w : Life) (q : ℕ) (next : Members) → IsSound all w → (c : IsChosen all w.reports q next)
    → (i : ℕ) → has c.gone i ≡ true → w.gone i ≡ true
left_out all w q next sound c i out =
    let v = c.all c.some.0 c.some.1 c.some.2 in
    sound.views c.some.0 i
    ((sound.reports _ v.sent).view i (subst (λ g. has g i ≡ true) (sym v.view) out))

-- Some member that counts for a master wasn't left out; or all members are gone.
found : (all : ℕ) (w : Life) (r q : ℕ) (next : Members) → IsSound all w → (c : IsChosen all w.reports q next)
    → ((i : ℕ) × (is_member all i ≡ true) × (has (w.masters r).gone i ≡ false)
    × (has c.gone i ≡ false)) ⊎ AreGone all w.gone
found all w r q next sound c = elim (some_below passes 16) [
  | inl one ↦
      let parts =
      and_parts (is_member all one.0) (not (has (w.masters r).gone one.0) && not (has c.gone one.0)) one.1 in
      let rest = and_parts (not (has (w.masters r).gone one.0)) (not (has c.gone one.0)) parts.1 in
      inl (one.0, parts.0, not-true (has (w.masters r).gone one.0) rest.0, not-true (has c.gone one.0) rest.1)
  | inr none ↦ inr (λ i member. fails i member (none i (below i member)))
]
  where
    passes : ℕ → Bool
    passes i = is_member all i && (not (has (w.masters r).gone i) && not (has c.gone i))

    below : (i : ℕ) → is_member all i ≡ true → i < 16
    below i member = ltb-true i 16 (and_parts (nat_lt i 16) (has all i) member).0

    fails : (i : ℕ) → is_member all i ≡ true
        → is_member all i && (not (has (w.masters r).gone i) && not (has c.gone i)) ≡ false → w.gone i ≡ true
    fails i member off = elim (and_cases (is_member all i) (not (has (w.masters r).gone i) && not (has c.gone i)) off) [
      | inl stranger ↦ absurd (not_both member stranger)
      | inr rest ↦ elim (and_cases (not (has (w.masters r).gone i)) (not (has c.gone i)) rest) [
        | inl known ↦ (sound.masters r).gone i (not-false (has (w.masters r).gone i) known)
        | inr out ↦ left_out all w q next sound c i (not-false (has c.gone i) out)
      ]
    ]

-- What a master finds at a generation in which these were chosen in an earlier epoch: each member that counts has
-- accepted something in that epoch or later, or they have all ended.
abbrev pub Finds : Life → ℕ → ℕ → Members → Type 0
Finds w r q next =
    (i : ℕ) (report : Report) → Tells (w.masters r) i report → IsAcceptedSince q report.phase ⊎ HaveEnded w.ended next

pub finds : (all : ℕ) (w : Life) (r q : ℕ) (next : Members) → IsSound all w → IsChosen all w.reports q next → q < r
    → HasHeardAll (w.masters r) → Finds w r q next ⊎ AreGone all w.gone
finds all w r q next sound c earlier heard = elim (found all w r q next sound c) [
  | inr gone ↦ inr gone
  | inl one ↦ inl (λ i report tells. by one i report tells)
]
  where
    master : IsSoundMaster all w.members w.gone w.ended w.reports r (w.masters r)
    master = sound.masters r

    member_of : (i : ℕ) → is_member (w.masters r).members i ≡ true → is_member all i ≡ true
    member_of i is = subst (λ m. is_member m i ≡ true) master.members is

    -- whom the choice left out the master knows to be gone, by the report of one that wasn't
    known : ((i : ℕ) × (is_member all i ≡ true) × (has (w.masters r).gone i ≡ false) × (has c.gone i ≡ false))
        → (j : ℕ) → has c.gone j ≡ true → has (w.masters r).gone j ≡ true
    known one j out =
        let told = heard.all one.0 (counts_if (w.masters r) one.0
        (subst (λ m. is_member m one.0 ≡ true) (sym master.members) one.1) one.2) in
        let v = c.all one.0 one.1 one.3 in
        let turn = sound.in_turn _ _ v.sent (master.knows one.0 told.0 told.1.told) refl
        (subst (λ k. k < told.0.epoch) (sym v.epoch)
        (subst (λ k. q < k) (sym (master.own one.0 told.0 told.1.told)) earlier)) in
        master.views one.0 told.0 told.1.told j (turn.view j (subst (λ g. has g j ≡ true) (sym v.view) out))

    by : ((i : ℕ) × (is_member all i ≡ true) × (has (w.masters r).gone i ≡ false) × (has c.gone i ≡ false))
        → (i : ℕ) (report : Report) → Tells (w.masters r) i report
        → IsAcceptedSince q report.phase ⊎ HaveEnded w.ended next
    by one i report tells =
        let within : has c.gone i ≡ false =
        false_if (has c.gone i) (λ out. not_both (known one i out) (counts_on (w.masters r) i tells.counts)) in
        let v = c.all i (member_of i (counts_member (w.masters r) i tells.counts)) within in
        let turn = sound.in_turn _ _ v.sent (master.knows i report tells.told) refl
        (subst (λ k. k < report.epoch) (sym v.epoch)
        (subst (λ k. q < k) (sym (master.own i report tells.told)) earlier)) in
        elim (turn.keeps (accepts q next) v.accepted (sym v.epoch)) [
          | inl since ↦ inl (subst (λ k. IsAcceptedSince k report.phase) v.epoch since)
          | inr on ↦ inr ((sound.faithful i).resumed q next c (subst (λ k. k < (w.members i).resumed) v.epoch on))
        ]

-- What was accepted in the highest epoch is what was chosen, or that is void.
pub highest : (all : ℕ) (w : Life) (r q : ℕ) (next : Members) (a : Acceptance) → IsSound all w
    → IsChosen all w.reports q next → Finds w r q next → IsHighest (w.masters r) a → IsThatOrVoid w.ended a.next next
highest all w r q next a sound c look is =
    elim (look is.by is.report is.tells) [
      | inr void ↦ inr void
      | inl since ↦ by (subst (λ b. q ≤ b.epoch) (same_some (sym since.is ∙ is.accepted)) since.since)
    ]
  where
    by : q ≤ a.epoch → IsThatOrVoid w.ended a.next next
    by later = elim (cases_order q a.epoch) [
      | inl same ↦
          let v = c.all c.some.0 c.some.1 c.some.2 in
          let theirs = (sound.reports _ v.sent).proposed (accepts q next) v.accepted in
          let ours = (sound.reports _ ((sound.masters r).knows is.by is.report is.tells.told)).proposed a is.accepted in
          inl (same_some (sym ours ∙ subst (λ k. proposed_of (w.masters k).stage ≡ Some next) same theirs))
      | inr either ↦ elim either [
        | inl less ↦
            sound.since _ ((sound.masters r).knows is.by is.report is.tells.told) q next a c is.accepted less
        | inr more ↦ absurd (omega (arith, later, more))
      ]
    ]

-- So it lets the members go on only if what was chosen is void, or all are gone;
pub looks_free : (all : ℕ) (w : Life) (r q : ℕ) (next : Members) → IsSound all w → IsChosen all w.reports q next → q < r
    → IsFree (w.masters r) → HaveEnded w.ended next ⊎ AreGone all w.gone
looks_free all w r q next sound c earlier free = elim (finds all w r q next sound c earlier free.unswitched.heard) [
  | inr gone ↦ inr gone
  | inl look ↦ inl (elim free.why [
    | inl unaccepted ↦ elim (look unaccepted.by unaccepted.report unaccepted.tells) [
      | inr void ↦ void
      | inl since ↦ absurd (none_some unaccepted.nothing since.is)
    ]
    | inr void ↦ elim (highest all w r q next void.highest sound c look void.is) [
      | inr ended ↦ ended
      | inl same ↦ subst (HaveEnded w.ended) same
          (λ p real among. (sound.masters r).ended p (void.ended p real among))
    ]
  ])
]

-- and it proposes another only then.
pub looks_first : (all : ℕ) (w : Life) (r q : ℕ) (next own : Members) → IsSound all w
    → IsChosen all w.reports q next → q < r
    → MayPropose (w.masters r) own → IsThatOrVoid w.ended own next ⊎ AreGone all w.gone
looks_first all w r q next own sound c earlier may = elim may [
  | inl free ↦ elim (looks_free all w r q next sound c earlier free) [ inl void ↦ inl (inr void) | inr gone ↦ inr gone ]
  | inr adopted ↦ elim (finds all w r q next sound c earlier adopted.unswitched.heard) [
    | inr gone ↦ inr gone
    | inl look ↦ inl (subst (λ m. IsThatOrVoid w.ended m next) (sym adopted.same)
        (highest all w r q next adopted.highest sound c look adopted.is))
  ]
]

-- Each member has entered the epoch of a master that has heard all that count, or is gone.
pub looks_entered : (all : ℕ) (w : Life) (r : ℕ) → IsSound all w → HasHeardAll (w.masters r)
    → (i : ℕ) → is_member all i ≡ true → (w.gone i ≡ true) ⊎ (r ≤ (w.members i).epoch)
looks_entered all w r sound heard i member = elim (cases_Bool (has (w.masters r).gone i)) [
  | inl known ↦ inl ((sound.masters r).gone i known)
  | inr on ↦
      let told = heard.all i (counts_if (w.masters r) i
      (subst (λ m. is_member m i ≡ true) (sym (sound.masters r).members) member) on) in
      let sent = (sound.masters r).knows i told.0 told.1.told in
      inr (subst (λ k. k ≤ (w.members i).epoch) ((sound.masters r).own i told.0 told.1.told)
      (sound.reports _ sent).epoch)
]
