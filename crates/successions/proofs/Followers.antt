-- What is sound has one successor, which opens only after the last looks of the members before.
use Rattle.std.proofs.Common.{◌≡◌, ◌≢◌, ℕ, ◌<◌, ◌≤◌, inl, inr, true, false, List, Contains}
use Rattle.std.proofs.Common.{Some}
use Rattle.std.proofs.Common.{ap, sym, ◌∙◌, subst, arith}
use Rattle.std.proofs.lemmas.Bool.{cases_Bool, cases_order}
use Rattle.leases.specs.Sets.{has}
use Rattle.successions.specs.declared.members.Members.{Members}
use Rattle.successions.specs.declared.members.Acceptance.{Acceptance}
use Rattle.successions.specs.Successions.{acceptance_of}
use Rattle.successions.specs.Decisions.{is_member, switches_to}
use Rattle.successions.specs.Lives.{Sent, Life, Follows, HasAccepted, HasLeft}
use Rattle.successions.proofs.Soundness.{accepts, proposed_of, IsChosen, Lasts, IsSound}
use Rattle.successions.proofs.Looks.{not_both, same_some, left_out}

-- whom a living or opened process follows was chosen for good
lasts : (all : ℕ) (w : Life) (p : ℕ) (next : Members) → IsSound all w → Follows w p next → Lasts all w.reports next
lasts all w p next sound follows = elim follows.lives [
  | inl lives ↦ let c = (sound.masters by.0).chosen next by.1 in record {
    epoch = c.0;
    chosen = c.1;
    later = λ s a among is less. elim (sound.since s among c.0 next a c.1 is less) [
      | inl same ↦ same
      | inr void ↦ absurd (not_both (void p one.0 one.1) lives)
    ];
  }
  | inr was ↦ (sound.opened p next was follows.started).lasts
]
  where
    by : (r : ℕ) × (switches_to (w.masters r).stage ≡ Some next)
    by = (sound.started p next follows.started).by

    one : (p ≢ 0) × Contains next.processes p
    one = (sound.started p next follows.started).one

-- of two that were chosen for good, the later is the earlier
later_is : (all : ℕ) (reports : List Sent) (one other : Members) → (l : Lasts all reports one)
    → (m : Lasts all reports other)
    → l.epoch < m.epoch → one ≡ other
later_is all reports one other l m less =
    let v = m.chosen.all m.chosen.some.0 m.chosen.some.1 m.chosen.some.2 in
    sym (l.later _ (accepts m.epoch other) v.sent v.accepted less)

pub one_is : (all : ℕ) (w : Life) (p q : ℕ) (one other : Members) → IsSound all w → Follows w p one → Follows w q other
    → one ≡ other
one_is all w p q one other sound follows too =
    by (lasts all w p one sound follows) (lasts all w q other sound too)
  where
    by : Lasts all w.reports one → Lasts all w.reports other → one ≡ other
    by l m = elim (cases_order l.epoch m.epoch) [
      | inl same ↦
          let v = l.chosen.all l.chosen.some.0 l.chosen.some.1 l.chosen.some.2 in
          let u = m.chosen.all m.chosen.some.0 m.chosen.some.1 m.chosen.some.2 in
          let first = (sound.reports _ v.sent).proposed (accepts l.epoch one) v.accepted in
          let second = (sound.reports _ u.sent).proposed (accepts m.epoch other) u.accepted in
          same_some (sym first ∙ subst (λ k. proposed_of (w.masters k).stage ≡ Some other) (sym same) second)
      | inr either ↦ elim either [
        | inl less ↦ later_is all w.reports one other l m less
        | inr more ↦ sym (later_is all w.reports other one m l more)
      ]
    ]

-- once a next generation is open, each member has left for it, or is gone
pub has_left : (all : ℕ) (w : Life) (p i : ℕ) (next : Members) → IsSound all w → w.opened p ≡ true
    → w.started p ≡ Some next → is_member all i ≡ true → HasLeft w i next
has_left all w p i next sound was started member =
    (sound.orders _ (sound.opened p next was started).order.2).1 i member

-- beside a process that follows each member has accepted who it follows as
pub has_accepted : (all : ℕ) (w : Life) (p i : ℕ) (next : Members) → IsSound all w → Follows w p next
    → is_member all i ≡ true → w.gone i ≡ false → HasAccepted w i next
has_accepted all w p i next sound follows member on = elim follows.lives [
  | inr was ↦ elim (has_left all w p i next sound was follows.started member) [
    | inl gone ↦ absurd (not_both gone on)
    | inr left ↦ (left.0, ap acceptance_of left.1, left.2)
  ]
  | inl lives ↦ let c = (sound.masters by.0).chosen next by.1 in elim (cases_Bool (has c.1.gone i)) [
    | inl out ↦ absurd (not_both (left_out all w c.0 next sound c.1 i out) on)
    | inr within ↦
        let v = c.1.all i member within in
        elim ((sound.reports _ v.sent).keeps (accepts c.0 next) v.accepted (sym v.epoch)) [
          | inl since ↦ (
            since.acceptance,
            since.is,
            same c.0 c.1 lives since.acceptance since.is (subst (λ k. k ≤ since.acceptance.epoch) v.epoch since.since),
          )
          | inr less ↦ absurd (not_both
              ((sound.faithful i).resumed c.0 next c.1 (subst (λ k. k < (w.members i).resumed) v.epoch less)
              p one.0 one.1)
              lives)
        ]
  ]
]
  where
    by : (r : ℕ) × (switches_to (w.masters r).stage ≡ Some next)
    by = (sound.started p next follows.started).by

    one : (p ≢ 0) × Contains next.processes p
    one = (sound.started p next follows.started).one

    same : (q : ℕ) → IsChosen all w.reports q next → w.ended p ≡ false → (a : Acceptance)
        → acceptance_of (w.members i).phase ≡ Some a → q ≤ a.epoch → a.next ≡ next
    same q c lives a is later = elim (cases_order q a.epoch) [
      | inl equal ↦
          let v = c.all c.some.0 c.some.1 c.some.2 in
          let theirs = (sound.reports _ v.sent).proposed (accepts q next) v.accepted in
          same_some (sym ((sound.members i).proposed a is)
          ∙ subst (λ k. proposed_of (w.masters k).stage ≡ Some next) equal theirs)
      | inr either ↦ elim either [
        | inl less ↦ elim ((sound.faithful i).accepted q next a c is less) [
          | inl that ↦ that
          | inr void ↦ absurd (not_both (void p one.0 one.1) lives)
        ]
        | inr more ↦ absurd (omega (arith, later, more))
      ]
    ]
