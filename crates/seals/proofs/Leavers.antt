-- Whoever goes on from the numbers that all are to report isn't the first, or had not reported them, and never will.
use Rattle.std.proofs.Common.{◌≡◌, ℕ, suc, ◌+◌, ◌<◌, ◌≤◌, ◌⊎◌, inl, inr, Bool, true, false, nat_eq}
use Rattle.std.proofs.Common.{◌&&◌}
use Rattle.std.proofs.Common.{List, [], ◌∷◌, refl, ap, sym, ◌∙◌, subst, arith}
use Rattle.std.proofs.Common.{if◌then◌else◌}
use Rattle.std.proofs.lemmas.Bool.{cases_Bool, cases_lt, and_parts, and_from, eqb-true, eq-eqb}
use Rattle.std.proofs.lemmas.Bool.{false≢true, true≢false, false_from_ne_true}
use Rattle.leases.specs.Sets.{has}
use Rattle.successions.specs.Decisions.{is_member}
use Rattle.successions.specs.Lists.{Among, with_at}
use Rattle.successions.proofs.Basics.{changed_at, at_same}
use Rattle.seals.specs.declared.markers.Numbers.{Numbers}
use Rattle.seals.specs.Seals.{SealState, is_in, followed, passed_by, marked_by, is_same, has_passed}
use Rattle.seals.specs.Seals.{is_at_rest}
use Rattle.seals.specs.Seals.{standing_of, all_below, is_level}
use Rattle.seals.specs.Runs.{reach, Item, Sending, Work, Sent, Run, begun, with_both}
use Rattle.seals.specs.Runs.{IsMoved, May, Follows, Sees, Begins, Holds, Takes, Passes, Works}
use Rattle.seals.specs.Runs.{Reads}
use Rattle.seals.specs.Runs.{Sends, Hears, Drops, Learns, Marks, Reaches, Reports, IsReached, At_first, Goes_on}
use Rattle.seals.specs.Runs.{has_begun}
use Rattle.seals.specs.Runs.{has_update, counts, HasReported, AreIdle, AreQuiet}
use Rattle.seals.proofs.Soundness.{Updates, limit_of, IsSoundWork, IsSentBy, numbers_in, IsSoundReport, IsSound}
use Rattle.seals.proofs.Lanes.{same_numbers, alike, is_same_refl, no_update}
use Rattle.seals.proofs.Phases.{in_parts, in_from, fenced_holds, Turns, Stays, Leaves, Anew, turns}
use Rattle.seals.proofs.Phases.{is_passed_by}
use Rattle.seals.proofs.Phases.{is_marked_by}
use Rattle.seals.proofs.Keeps.{at_rest, is_sound, grows, same_in}

-- ---- who has reported

abbrev pub is_this : ℕ → Numbers → ℕ → Sent → Bool
is_this epoch numbers i s =
    nat_eq s.from i && (nat_eq s.epoch epoch && (s.standing.idle && is_same (numbers_in s.standing) numbers))

-- this member has reported that it is idle with these numbers, in the seal of this epoch
abbrev pub is_reported : ℕ → Numbers → ℕ → List Sent → Bool
is_reported epoch numbers i [] = false
is_reported epoch numbers i (s ∷ rest) = if is_this epoch numbers i s then true else is_reported epoch numbers i rest

else_of : (b r : Bool) → b ≡ false → (if b then true else r) ≡ true → r ≡ true
else_of true r e is = absurd (true≢false e)
else_of false r e is = is

or_this : (b r : Bool) → b ≡ true → (if b then true else r) ≡ true
or_this true r e = refl
or_this false r e = absurd (false≢true e)

or_rest : (b r : Bool) → r ≡ true → (if b then true else r) ≡ true
or_rest true r e = refl
or_rest false r e = e

neither : (b r : Bool) → b ≡ false → r ≡ false → (if b then true else r) ≡ false
neither true r e f = e
neither false r e f = f

found : (epoch : ℕ) (numbers : Numbers) (i : ℕ) (reports : List Sent) → is_reported epoch numbers i reports ≡ true
    → (s : Sent) × Among s reports × (is_this epoch numbers i s ≡ true)
found epoch numbers i [] is = absurd (false≢true is)
found epoch numbers i (s ∷ rest) is = elim (cases_Bool (is_this epoch numbers i s)) [
  | inl this ↦ (s, inl refl, this)
  | inr other ↦ let more = found epoch numbers i rest (else_of _ _ other is) in (more.0, inr more.1, more.2)
]

known : (epoch : ℕ) (numbers : Numbers) (i : ℕ) (reports : List Sent) (s : Sent) → Among s reports
    → is_this epoch numbers i s ≡ true → is_reported epoch numbers i reports ≡ true
known epoch numbers i [] s among this = absurd among
known epoch numbers i (t ∷ rest) s among this = elim among [
  | inl same ↦ or_this _ _ (subst (λ x. is_this epoch numbers i x ≡ true) same this)
  | inr more ↦ or_rest _ _ (known epoch numbers i rest s more this)
]

-- ---- who has gone on

-- A server has gone on from this reach, or is about to.
abbrev pub IsLeft : ℕ → Work → Type 0
IsLeft far work = (far < reach work.table.numbers) ⊎ ((work.active ≡ true) × (far ≤ work.rested))

-- It hasn't.
record IsStaying (far : ℕ) (work : Work) : Type 0 where
  pub low : reach work.table.numbers ≤ far
  pub before : work.active ≡ true → work.rested < far

left_or_not : (far : ℕ) (work : Work) → IsLeft far work ⊎ IsStaying far work
left_or_not far work = elim (cases_lt far (reach work.table.numbers)) [
  | inl above ↦ inl (inl above)
  | inr low ↦ elim (cases_Bool work.active) [
    | inl active ↦ elim (cases_lt work.rested far) [
      | inl less ↦ inr (record { low = low; before = λ e. less })
      | inr more ↦ inl (inr (active, more))
    ]
    | inr resting ↦ inr (record { low = low; before = λ e. absurd (true≢false (sym e ∙ resting)) })
  ]
]

-- A member knows that more are gone, or isn't in that seal any more.
abbrev pub IsOff : ℕ → Numbers → SealState → Work → Type 0
IsOff epoch numbers seal work =
    (numbers.view < work.table.numbers.view) ⊎ ((epoch ≤ seal.epoch) × (is_in seal epoch ≡ false))

-- It will never come to it that all have reported these numbers, and are in that seal.
pub record IsSpoiled (members epoch : ℕ) (numbers : Numbers) (w : Run) : Type 0 where
  pub by : ℕ
  pub counting : counts members numbers.view by
  pub why : IsOff epoch numbers (w.seals by) (w.works by)
      ⊎ (IsLeft (reach numbers) (w.works by) × (is_reported epoch numbers by w.reports ≡ false))

-- ---- what stays

record IsCarried (old new : Work) : Type 0 where
  pub left : (far : ℕ) → IsLeft far old → IsLeft far new
  pub view : old.table.numbers.view ≤ new.table.numbers.view

carried_same : (work : Work) → IsCarried work work
carried_same work = record { left = λ far is. is; view = omega arith }

carried_moved : (old new : Work) → IsMoved old new → IsCarried old new
carried_moved old new m = record { left = left; view = m.view }
  where
    left : (far : ℕ) → IsLeft far old → IsLeft far new
    left far (inl above) = let more = grows old new m in inl (omega (arith, above, more))
    left far (inr at) = elim (cases_Bool new.active) [
      | inl active ↦ let same = m.goes_on active in let low = at.1 in inr (active, omega (arith, same, low))
      | inr resting ↦ elim (m.rests resting) [
        | inl unmoved ↦ absurd (true≢false (sym at.0 ∙ unmoved.before))
        | inr further ↦ let far_on = further.further in let low = at.1 in inl (omega (arith, far_on, low))
      ]
    ]

carried_reads : (work : Work) (busy : Bool)
    → IsCarried work (record work { table = record work.table { busy = busy } })
carried_reads work busy = record { left = λ far is. is; view = omega arith }

carried_at : (w : Run) (i : ℕ) (work : Work) (k : ℕ) → IsCarried (w.works i) work
    → IsCarried (w.works k) (with_at w.works i work k)
carried_at w i work k more = changed_at (IsCarried (w.works k)) w.works i work k
    (λ e. subst (λ a. IsCarried (w.works a) work) (sym e) more) (carried_same (w.works k))

record IsLater (old new : SealState) : Type 0 where
  pub later : old.epoch ≤ new.epoch
  pub was_in : (epoch : ℕ) → epoch ≤ old.epoch → is_in new epoch ≡ true → is_in old epoch ≡ true

later_same : (seal : SealState) → IsLater seal seal
later_same seal = record { later = omega arith; was_in = λ epoch low is. is }

later_turns : (old new : SealState) → Turns old new → IsLater old new
later_turns old new (Stays is) = subst (IsLater old) (sym is) (later_same old)
later_turns old new (Leaves epoch_is unfenced marks) = record {
  later = omega (arith, epoch_is);
  was_in = λ epoch low is. absurd (true≢false (sym (in_parts new epoch is).0 ∙ unfenced));
}
later_turns old new (Anew later marks passed) = record {
  later = omega (arith, later);
  was_in = λ epoch low is. let at = (in_parts new epoch is).1 in absurd (omega (arith, low, at, later));
}

later_kept : (old new : SealState) → new.hold ≡ old.hold → new.epoch ≡ old.epoch → IsLater old new
later_kept old new hold epoch_is = record {
  later = omega (arith, epoch_is);
  was_in = λ epoch low is. same_in old new hold epoch_is epoch is;
}

later_at : (w : Run) (i : ℕ) (seal : SealState) (k : ℕ) → IsLater (w.seals i) seal
    → IsLater (w.seals k) (with_at w.seals i seal k)
later_at w i seal k more = changed_at (IsLater (w.seals k)) w.seals i seal k
    (λ e. subst (λ a. IsLater (w.seals a) seal) (sym e) more) (later_same (w.seals k))

-- What stays of a generation.
record IsCarriedOn (w next : Run) : Type 0 where
  pub works : (k : ℕ) → IsCarried (w.works k) (next.works k)
  pub seals : (k : ℕ) → IsLater (w.seals k) (next.seals k)
  pub reports : (epoch : ℕ) (numbers : Numbers) (k : ℕ) → IsLeft (reach numbers) (w.works k)
      → is_reported epoch numbers k w.reports ≡ false → is_reported epoch numbers k next.reports ≡ false

spoiled_stays : (members epoch : ℕ) (numbers : Numbers) (w next : Run) → IsCarriedOn w next
    → IsSpoiled members epoch numbers w → IsSpoiled members epoch numbers next
spoiled_stays members epoch numbers w next on is = record {
  by = is.by;
  counting = is.counting;
  why = elim is.why [
    | inl off ↦ inl (elim off [
      | inl more ↦ let view = (on.works is.by).view in inl (omega (arith, more, view))
      | inr past ↦ let low = past.0 in let later = (on.seals is.by).later in inr (
        omega (arith, low, later),
        false_from_ne_true _ (λ e. true≢false (sym ((on.seals is.by).was_in epoch past.0 e) ∙ past.1)),
      )
    ])
    | inr left ↦ inr (
      (on.works is.by).left (reach numbers) left.0,
      on.reports epoch numbers is.by left.0 left.1,
    )
  ];
}

-- only servers change
works_carry : (w : Run) (i : ℕ) (work : Work) → IsCarried (w.works i) work
    → (k : ℕ) → IsCarried (w.works k) (with_at w.works i work k)
works_carry w i work more k = carried_at w i work k more

-- who has gone on doesn't report these numbers any more
unreported : (members threads : ℕ) (w : Run) (i : ℕ) → IsSound members threads w
    → (epoch : ℕ) (numbers : Numbers) (k : ℕ) → IsLeft (reach numbers) (w.works k)
    → is_reported epoch numbers k w.reports ≡ false
    → is_reported epoch numbers k (record {
      from = i;
      epoch = (w.seals i).epoch;
      standing = standing_of (w.seals i) (w.works i).table;
    } ∷ w.reports) ≡ false
unreported members threads w i sound epoch numbers k left not_before =
    neither _ _ (false_from_ne_true _ (λ this. never this)) not_before
  where
    s : Sent
    s = record { from = i; epoch = (w.seals i).epoch; standing = standing_of (w.seals i) (w.works i).table }

    gone_on : IsLeft (reach numbers) (w.works i) → (w.works i).active ≡ false
        → (w.works i).table.numbers ≡ numbers → ⊥
    gone_on (inl above) resting same = let far : reach (w.works i).table.numbers ≡ reach numbers = ap reach same in
        omega (arith, above, far)
    gone_on (inr at) resting same = true≢false (sym at.0 ∙ resting)

    never : is_this epoch numbers k s ≡ true → ⊥
    never this =
        let first = and_parts (nat_eq i k) _ this in
        let second = and_parts (nat_eq (w.seals i).epoch epoch) _ first.1 in
        let third = and_parts s.standing.idle (is_same (numbers_in s.standing) numbers) second.1 in
        let resting = at_rest (w.seals i) (w.works i) (sound.works i)
        (and_parts (is_at_rest (w.seals i) (w.works i).table)
        (all_below (is_level (w.seals i) (w.works i).table.numbers) 16) third.0).0 in
        let same : numbers_in s.standing ≡ numbers = same_numbers _ numbers third.1 in
        let me : i ≡ k = eqb-true i k first.0 in
        gone_on (subst (λ a. IsLeft (reach numbers) (w.works a)) (sym me) left) resting.0 same

goes : (members threads : ℕ) (w next : Run) → IsSound members threads w → May members threads w next
    → IsCarriedOn w next
goes members threads w next sound (Follows i phase) = record {
  works = λ k. carried_same (w.works k);
  seals = λ k. later_at w i (followed (w.seals i) phase) k (later_turns (w.seals i) (followed (w.seals i) phase)
      (turns (w.seals i) phase));
  reports = λ epoch numbers k left none. none;
}
goes members threads w next sound (Sees i thread) = record {
  works = λ k. carried_same (w.works k);
  seals = λ k. later_same (w.seals k);
  reports = λ epoch numbers k left none. none;
}
goes members threads w next sound (Begins i thread real begins_it) = record {
  works = λ k. carried_same (w.works k);
  seals = λ k. later_same (w.seals k);
  reports = λ epoch numbers k left none. none;
}
goes members threads w next sound (Holds i thread holds_it) = record {
  works = λ k. carried_same (w.works k);
  seals = λ k. later_same (w.seals k);
  reports = λ epoch numbers k left none. none;
}
goes members threads w next sound (Takes i thread rest work at m) = record {
  works = works_carry w i work (carried_moved (w.works i) work m);
  seals = λ k. later_same (w.seals k);
  reports = λ epoch numbers k left none. none;
}
goes members threads w next sound (Passes i thread epoch rest at) = record {
  works = λ k. carried_same (w.works k);
  seals = λ k. let by = is_passed_by (w.seals i) thread epoch in
      later_at w i (passed_by (w.seals i) thread epoch) k
      (later_kept (w.seals i) (passed_by (w.seals i) thread epoch) by.hold by.epoch_is);
  reports = λ epoch numbers k left none. none;
}
goes members threads w next sound (Works i work active m) = record {
  works = works_carry w i work (carried_moved (w.works i) work m);
  seals = λ k. later_same (w.seals k);
  reports = λ epoch numbers k left none. none;
}
goes members threads w next sound (Reads i busy resting) = record {
  works = works_carry w i (record (w.works i) { table = record (w.works i).table { busy = busy } })
      (carried_reads (w.works i) busy);
  seals = λ k. later_same (w.seals k);
  reports = λ epoch numbers k left none. none;
}
goes members threads w next sound (Sends i j member other active) = record {
  works = λ k. carried_same (w.works k);
  seals = λ k. later_same (w.seals k);
  reports = λ epoch numbers k left none. none;
}
goes members threads w next sound (Hears i j rested rest work at known_not m) = record {
  works = works_carry w j work (carried_moved (w.works j) work m);
  seals = λ k. later_same (w.seals k);
  reports = λ epoch numbers k left none. none;
}
goes members threads w next sound (Drops i j item rest at known_gone) = record {
  works = λ k. carried_same (w.works k);
  seals = λ k. later_same (w.seals k);
  reports = λ epoch numbers k left none. none;
}
goes members threads w next sound (Learns i work more m) = record {
  works = works_carry w i work (carried_moved (w.works i) work m);
  seals = λ k. later_same (w.seals k);
  reports = λ epoch numbers k left none. none;
}
goes members threads w next sound (Marks i j marker is) = record {
  works = λ k. carried_same (w.works k);
  seals = λ k. later_same (w.seals k);
  reports = λ epoch numbers k left none. none;
}
goes members threads w next sound (Reaches i j marker rest at known_not) = record {
  works = λ k. carried_same (w.works k);
  seals = λ k. let by = is_marked_by (w.seals j) i marker in
      later_at w j (marked_by (w.seals j) i marker) k
      (later_kept (w.seals j) (marked_by (w.seals j) i marker) by.hold by.epoch_is);
  reports = λ epoch numbers k left none. none;
}
goes members threads w next sound (Reports i) = record {
  works = λ k. carried_same (w.works k);
  seals = λ k. later_same (w.seals k);
  reports = unreported members threads w i sound;
}

-- ---- a member that has reported, and hasn't gone on

record IsStill (members threads epoch : ℕ) (numbers : Numbers) (w : Run) (i : ℕ) : Type 0 where
  pub resting : (w.works i).active ≡ false
  pub rested : (w.works i).rested ≡ reach numbers
  pub numbers_are : (w.works i).table.numbers ≡ numbers
  pub epoch_is : epoch ≤ (w.seals i).epoch
  pub passed : is_in (w.seals i) epoch ≡ true → (thread : ℕ) → thread < threads
      → has_passed (w.seals i).passed thread ≡ true
  pub peers : (k : ℕ) → is_member members k ≡ true → has numbers.view k ≡ false → nat_eq k i ≡ false
      → Updates (λ n. reach numbers ≤ n) (w.links k i)

all_same : (a b c x y z : ℕ) → a ≤ x → b ≤ y → c ≤ z → x + (y + z) ≤ a + (b + c)
    → (x ≡ a) × (y ≡ b) × (z ≡ c)
all_same a b c x y z p q r low =
    (omega (arith, p, q, r, low), omega (arith, p, q, r, low), omega (arith, p, q, r, low))

still_by : (members threads : ℕ) (w : Run) (s : Sent) → IsSound members threads w → Among s w.reports
    → s.standing.idle ≡ true → IsStaying (reach (numbers_in s.standing)) (w.works s.from)
    → IsStill members threads s.epoch (numbers_in s.standing) w s.from
still_by members threads w s sound among idle stays = record {
  resting = resting;
  rested = let at = (sound.works s.from).rest resting in let low = stays.low in let high = r.rested in
      omega (arith, at, low, high);
  numbers_are = let same = all_same _ _ _ _ _ _ r.view r.last r.committed stays.low in
      alike (w.works s.from).table.numbers (numbers_in s.standing) same.0 same.1 same.2;
  epoch_is = r.epoch_is;
  passed = r.passed;
  peers = λ k member out other. (r.peers k member out other).0;
}
  where
    r : IsSoundReport members threads (w.seals s.from) (w.works s.from) w.works (λ k. w.links k s.from) s
    r = sound.reports s among idle

    resting : (w.works s.from).active ≡ false
    resting = false_from_ne_true _ (λ active. let less = stays.before active in let high = r.rested in
        omega (arith, less, high))

still : (members threads epoch : ℕ) (numbers : Numbers) (w : Run) (i : ℕ) → IsSound members threads w
    → is_reported epoch numbers i w.reports ≡ true → IsStaying (reach numbers) (w.works i)
    → IsStill members threads epoch numbers w i
still members threads epoch numbers w i sound is stays =
    let it = found epoch numbers i w.reports is in
    let first = and_parts (nat_eq it.0.from i) _ it.2 in
    let second = and_parts (nat_eq it.0.epoch epoch) _ first.1 in
    let third = and_parts it.0.standing.idle (is_same (numbers_in it.0.standing) numbers) second.1 in
    let from : it.0.from ≡ i = eqb-true it.0.from i first.0 in
    let at : it.0.epoch ≡ epoch = eqb-true it.0.epoch epoch second.0 in
    let same : numbers_in it.0.standing ≡ numbers = same_numbers _ numbers third.1 in
    subst (λ u. IsStill members threads epoch u w i) same
    (subst (λ e. IsStill members threads e (numbers_in it.0.standing) w i) at
    (subst (λ k. IsStill members threads it.0.epoch (numbers_in it.0.standing) w k) from
    (still_by members threads w it.0 sound it.1 third.0
    (subst (λ u. IsStaying (reach u) (w.works it.0.from)) (sym same)
    (subst (λ k. IsStaying (reach numbers) (w.works k)) (sym from) stays)))))

-- ---- whoever goes on spoils it

abbrev pub AreSpoiled : ℕ → Run → Type 0
AreSpoiled members w = (epoch : ℕ) (numbers : Numbers) (j : ℕ) → counts members numbers.view j
    → IsLeft (reach numbers) (w.works j) → IsSpoiled members epoch numbers w

-- A server goes on: who has reported and hasn't gone on before isn't the first.
server_goes : (members threads : ℕ) (w : Run) (i : ℕ) (work : Work) (inlets : ℕ → ℕ → List Sending)
    (links : ℕ → ℕ → List Item) → IsSound members threads w → AreSpoiled members w
    → IsCarried (w.works i) work
    → ((epoch : ℕ) (numbers : Numbers) → counts members numbers.view i
    → IsStill members threads epoch numbers w i → IsLeft (reach numbers) work
    → IsSpoiled members epoch numbers (record w {
      works = with_at w.works i work;
      inlets = inlets;
      links = links;
    }))
    → AreSpoiled members (record w { works = with_at w.works i work; inlets = inlets; links = links })
server_goes members threads w i work inlets links sound before more first epoch numbers j counting =
    changed_at (λ x. IsLeft (reach numbers) x → IsSpoiled members epoch numbers next) w.works i work j
    (λ e left. here (subst (counts members numbers.view) e counting) left)
    (λ left. stays (before epoch numbers j counting left))
  where
    next : Run
    next = record w { works = with_at w.works i work; inlets = inlets; links = links }

    stays : IsSpoiled members epoch numbers w → IsSpoiled members epoch numbers next
    stays = spoiled_stays members epoch numbers w next (record {
      works = works_carry w i work more;
      seals = λ k. later_same (w.seals k);
      reports = λ e n k left none. none;
    })

    here : counts members numbers.view i → IsLeft (reach numbers) work → IsSpoiled members epoch numbers next
    here counting left = elim (left_or_not (reach numbers) (w.works i)) [
      | inl was ↦ stays (before epoch numbers i counting was)
      | inr not_yet ↦ elim (cases_Bool (is_reported epoch numbers i w.reports)) [
        | inl is ↦ first epoch numbers counting (still members threads epoch numbers w i sound is not_yet) left
        | inr none ↦ record {
          by = i;
          counting = counting;
          why = inr (subst (IsLeft (reach numbers)) (sym (at_same w.works i work)) left, none);
        }
      ]
    ]

-- who sends what another one hears has gone on
sender_left : (members i j : ℕ) (numbers : Numbers) (w : Run) (rested : ℕ) → IsSoundWork (w.works i)
    → IsSentBy members i j (w.works i) rested → reach numbers ≤ rested → IsLeft (reach numbers) (w.works i)
sender_left members i j numbers w rested sound by low = elim (cases_Bool (w.works i).active) [
  | inl active ↦ let is : limit_of (w.works i).active (w.works i).rested ≡ suc (w.works i).rested =
      ap (λ b. limit_of b (w.works i).rested) active in
      let below = by.below in
      inr (active, omega (arith, below, is, low))
  | inr resting ↦ let is : limit_of (w.works i).active (w.works i).rested ≡ (w.works i).rested =
      ap (λ b. limit_of b (w.works i).rested) resting in
      let below = by.below in
      let at = sound.rest resting in
      inl (omega (arith, below, is, low, at))
]

-- no server changes
same_works : (members threads : ℕ) (w next : Run) → IsSound members threads w → AreSpoiled members w
    → May members threads w next → ((k : ℕ) → next.works k ≡ w.works k) → AreSpoiled members next
same_works members threads w next sound before step same epoch numbers j counting left =
    spoiled_stays members epoch numbers w next (goes members threads w next sound step)
    (before epoch numbers j counting (subst (IsLeft (reach numbers)) (same j) left))

spoils : (members threads : ℕ) (w next : Run) → IsSound members threads w → AreSpoiled members w
    → May members threads w next → AreSpoiled members next
spoils members threads w next sound before (Takes i thread rest work at m) =
    server_goes members threads w i work (with_both w.inlets i thread rest) w.links sound before
    (carried_moved (w.works i) work m)
    (λ epoch numbers counting is left. record {
      by = i;
      counting = counting;
      why = inl (inr (is.epoch_is, false_from_ne_true _ (λ within. no_more epoch numbers is within)));
    })
  where
    no_more : (epoch : ℕ) (numbers : Numbers) → IsStill members threads epoch numbers w i
        → is_in (w.seals i) epoch ≡ true → ⊥
    no_more epoch numbers is within =
        let real = (sound.threads_are i thread).real (ap has_begun at) in
        let none = ((sound.threads_are i thread).passed (in_parts (w.seals i) epoch within).0
        (is.passed within thread real)).1 in
        true≢false (sym (ap has_begun at) ∙ none)
spoils members threads w next sound before (Works i work active m) =
    server_goes members threads w i work w.inlets w.links sound before (carried_moved (w.works i) work m)
    (λ epoch numbers counting is left. absurd (true≢false (sym active ∙ is.resting)))
spoils members threads w next sound before (Reads i busy resting) =
    server_goes members threads w i (record (w.works i) { table = record (w.works i).table { busy = busy } }) w.inlets
    w.links sound before (carried_reads (w.works i) busy)
    (λ epoch numbers counting is left. absurd (not_left numbers left is.resting (ap reach is.numbers_are)))
  where
    not_left : (numbers : Numbers)
        → IsLeft (reach numbers) (record (w.works i) { table = record (w.works i).table { busy = busy } })
        → (w.works i).active ≡ false → reach (w.works i).table.numbers ≡ reach numbers → ⊥
    not_left numbers (inl above) rests same = omega (arith, above, same)
    not_left numbers (inr at) rests same = true≢false (sym at.0 ∙ rests)
spoils members threads w next sound before (Hears i j rested rest work at known_not m) =
    server_goes members threads w j work w.inlets (with_both w.links i j rest) sound before
    (carried_moved (w.works j) work m)
    (λ epoch numbers counting is left. spoiled_stays members epoch numbers w _
    (goes members threads w _ sound (Hears i j rested rest work at known_not m))
    (heard epoch numbers is))
  where
    by : IsSentBy members i j (w.works i) rested
    by = (subst (Updates (IsSentBy members i j (w.works i))) at (sound.links i j).sent).0

    heard : (epoch : ℕ) (numbers : Numbers) → IsStill members threads epoch numbers w j
        → IsSpoiled members epoch numbers w
    heard epoch numbers is =
        let out : has numbers.view i ≡ false = subst (λ (u : Numbers). has u.view i ≡ false) is.numbers_are known_not in
        let low = (subst (Updates (λ n. reach numbers ≤ n)) at (is.peers i by.member out by.other)).0 in
        before epoch numbers i (by.member, out) (sender_left members i j numbers w rested (sound.works i) by low)
spoils members threads w next sound before (Learns i work more m) =
    server_goes members threads w i work w.inlets w.links sound before (carried_moved (w.works i) work m)
    (λ epoch numbers counting is left. record {
      by = i;
      counting = counting;
      why = inl (inl (subst (λ (x : Work). numbers.view < x.table.numbers.view) (sym (at_same w.works i work))
          (subst (λ (u : Numbers). u.view < work.table.numbers.view) is.numbers_are more)));
    })
spoils members threads w next sound before (Follows i phase) =
    same_works members threads w next sound before (Follows i phase) (λ a. refl)
spoils members threads w next sound before (Sees i thread) =
    same_works members threads w next sound before (Sees i thread) (λ a. refl)
spoils members threads w next sound before (Begins i thread real it) =
    same_works members threads w next sound before (Begins i thread real it) (λ a. refl)
spoils members threads w next sound before (Holds i thread it) =
    same_works members threads w next sound before (Holds i thread it) (λ a. refl)
spoils members threads w next sound before (Passes i thread e rest at) =
    same_works members threads w next sound before (Passes i thread e rest at) (λ a. refl)
spoils members threads w next sound before (Sends i k member other active) =
    same_works members threads w next sound before (Sends i k member other active) (λ a. refl)
spoils members threads w next sound before (Drops i k item rest at gone) =
    same_works members threads w next sound before (Drops i k item rest at gone) (λ a. refl)
spoils members threads w next sound before (Marks i k marker is) =
    same_works members threads w next sound before (Marks i k marker is) (λ a. refl)
spoils members threads w next sound before (Reaches i k marker rest at known_not) =
    same_works members threads w next sound before (Reaches i k marker rest at known_not) (λ a. refl)
spoils members threads w next sound before (Reports i) =
    same_works members threads w next sound before (Reports i) (λ a. refl)

are_spoiled : (members generation threads : ℕ) (w : Run) → IsReached members generation threads w
    → AreSpoiled members w
are_spoiled members generation threads w At_first = λ epoch numbers j counting left. absurd (first numbers left)
  where
    first : (numbers : Numbers) → IsLeft (reach numbers) ((begun members generation threads).works 0) → ⊥
    first numbers (inl above) = omega (arith, above)
    first numbers (inr at) = false≢true at.0
are_spoiled members generation threads w (Goes_on earlier next reached may) =
    spoils members threads earlier next (is_sound members generation threads earlier reached)
    (are_spoiled members generation threads earlier reached) may

-- ---- all have reported

reported : (epoch : ℕ) (numbers : Numbers) (w : Run) (i : ℕ) → HasReported w epoch numbers i
    → is_reported epoch numbers i w.reports ≡ true
reported epoch numbers w i has_it = known epoch numbers i w.reports has_it.sent has_it.among
    (and_from _ _ (eq-eqb has_it.sent.from i has_it.from)
    (and_from _ _ (eq-eqb has_it.sent.epoch epoch has_it.epoch_is)
    (subst (λ x. (x.idle && is_same (numbers_in x) numbers) ≡ true) (sym has_it.standing) (is_same_refl numbers))))

unspoiled : (members epoch : ℕ) (numbers : Numbers) (w : Run) → AreIdle members w epoch numbers
    → IsSpoiled members epoch numbers w → ⊥
unspoiled members epoch numbers w quiet is = elim is.why [
  | inl off ↦ elim off [
    | inl more ↦ let same = quiet.view is.by is.counting in omega (arith, more, same)
    | inr past ↦ true≢false (sym (quiet.sealed is.by is.counting) ∙ past.1)
  ]
  | inr left ↦ true≢false (sym (reported epoch numbers w is.by (quiet.reported is.by is.counting)) ∙ left.1)
]

are_still : (members generation threads epoch : ℕ) (numbers : Numbers) (w : Run) (i : ℕ)
    → IsReached members generation threads w → AreIdle members w epoch numbers → counts members numbers.view i
    → IsStill members threads epoch numbers w i
are_still members generation threads epoch numbers w i reached quiet counting =
    elim (left_or_not (reach numbers) (w.works i)) [
      | inl left ↦ absurd (unspoiled members epoch numbers w quiet
          (are_spoiled members generation threads w reached epoch numbers i counting left))
      | inr stays ↦ still members threads epoch numbers w i (is_sound members generation threads w reached)
          (reported epoch numbers w i (quiet.reported i counting)) stays
    ]

of_members : (members generation threads epoch : ℕ) (numbers : Numbers) (w : Run) (i j : ℕ)
    → IsReached members generation threads w → AreIdle members w epoch numbers → counts members numbers.view i
    → counts members numbers.view j → has_update (w.links i j) ≡ false
of_members members generation threads epoch numbers w i j reached idle from to =
    elim (cases_Bool (nat_eq i j)) [
      | inl same ↦ no_update (IsSentBy members i j (w.works i)) (IsSentBy members i j (w.works i)) (w.links i j)
          (λ n by again. true≢false (sym same ∙ by.other)) sent sent
      | inr other ↦ no_update (IsSentBy members i j (w.works i)) (λ n. reach numbers ≤ n) (w.links i j)
          (λ n by low. never n by low) sent (there.peers i from.0 from.1 other)
    ]
  where
    sent : Updates (IsSentBy members i j (w.works i)) (w.links i j)
    sent = ((is_sound members generation threads w reached).links i j).sent

    here : IsStill members threads epoch numbers w i
    here = are_still members generation threads epoch numbers w i reached idle from

    there : IsStill members threads epoch numbers w j
    there = are_still members generation threads epoch numbers w j reached idle to

    never : (n : ℕ) → IsSentBy members i j (w.works i) n → reach numbers ≤ n → ⊥
    never n by low =
        let is : limit_of (w.works i).active (w.works i).rested ≡ (w.works i).rested =
        ap (λ b. limit_of b (w.works i).rested) here.resting in
        let below = by.below in
        let rested = here.rested in
        omega (arith, below, is, rested, low)

no_links : (members generation threads epoch : ℕ) (numbers : Numbers) (w : Run) (i j : ℕ)
    → IsReached members generation threads w → AreIdle members w epoch numbers → has numbers.view i ≡ false
    → counts members numbers.view j → has_update (w.links i j) ≡ false
no_links members generation threads epoch numbers w i j reached idle out to =
    elim (cases_Bool (is_member members i)) [
      | inl member ↦ of_members members generation threads epoch numbers w i j reached idle (member, out) to
      | inr stranger ↦ no_update (IsSentBy members i j (w.works i)) (IsSentBy members i j (w.works i)) (w.links i j)
          (λ n by again. true≢false (sym by.member ∙ stranger)) sent sent
    ]
  where
    sent : Updates (IsSentBy members i j (w.works i)) (w.links i j)
    sent = ((is_sound members generation threads w reached).links i j).sent

-- a thread of an idle member has held, and its server has taken all that it sent
thread_is : (members generation threads epoch : ℕ) (numbers : Numbers) (w : Run) (i thread : ℕ)
    → IsReached members generation threads w → AreIdle members w epoch numbers → counts members numbers.view i
    → thread < threads → ((w.flags i thread).begins ≡ false) × (has_begun (w.inlets i thread) ≡ false)
thread_is members generation threads epoch numbers w i thread reached idle counting real =
    let is = are_still members generation threads epoch numbers w i reached idle counting in
    let within = idle.sealed i counting in
    let fenced = (in_parts (w.seals i) epoch within).0 in
    let sound = (is_sound members generation threads w reached).threads_are i thread in
    let it = sound.passed fenced (is.passed within thread real) in
    (sound.holds (subst (λ e. is_in (w.seals i) e ≡ true) (sym it.0) (in_from (w.seals i) fenced)), it.1)

pub are_quiet : (members generation threads epoch : ℕ) (numbers : Numbers) (w : Run)
    → IsReached members generation threads w → AreIdle members w epoch numbers → AreQuiet members threads numbers w
are_quiet members generation threads epoch numbers w reached idle = record {
  held = λ i counting. fenced_holds (w.seals i).hold (in_parts (w.seals i) epoch (idle.sealed i counting)).0;
  flags = λ i thread counting real.
      (thread_is members generation threads epoch numbers w i thread reached idle counting real).0;
  inlets = λ i thread counting. false_from_ne_true _ (λ more. true≢false (sym more
      ∙ (thread_is members generation threads epoch numbers w i thread reached idle counting
      (((is_sound members generation threads w reached).threads_are i thread).real more)).1));
  links = λ i j out to. no_links members generation threads epoch numbers w i j reached idle out to;
  tables = λ i counting. (are_still members generation threads epoch numbers w i reached idle counting).numbers_are;
  resting = λ i counting. (are_still members generation threads epoch numbers w i reached idle counting).resting;
}
