-- How a seal may change, and what of it stays.
use Rattle.std.proofs.Common.{◌≡◌, ℕ, ◌<◌, ◌⊎◌, inl, inr, true, false, nat_eq, nat_lt}
use Rattle.std.proofs.Common.{None, Some, refl}
use Rattle.std.proofs.Common.{slice_set}
use Rattle.std.proofs.lemmas.Bool.{cond_both, and_parts, and_from, eqb-true, eq-eqb}
use Rattle.std.proofs.lemmas.Bool.{false≢true, ltb-true}
use Rattle.successions.specs.declared.orders.Phase.{Phase}
use Rattle.successions.specs.declared.orders.Phase.TheVariants.{Started, Serving, Sealed, Switched}
use Rattle.seals.specs.declared.markers.Numbers.{Numbers}
use Rattle.seals.specs.declared.markers.Marker.{Marker}
use Rattle.seals.specs.declared.holds.Hold.{Hold}
use Rattle.seals.specs.declared.holds.Hold.TheVariants.{Open, Held, Fenced}
use Rattle.seals.specs.Seals.{SealState, begins, is_fenced, is_in, changed, sealed, followed, passed_by, marked_by}
use Rattle.seals.specs.Seals.{no_marks, none_passed, has_passed, mark_at, is_own}
use Rattle.seals.proofs.Lanes.{passed_after, passed_stays, mark_after}

pub in_parts : (s : SealState) (epoch : ℕ) → is_in s epoch ≡ true → (is_fenced s.hold ≡ true) × (s.epoch ≡ epoch)
in_parts s epoch is = let parts = and_parts (is_fenced s.hold) (nat_eq s.epoch epoch) is in
    (parts.0, eqb-true s.epoch epoch parts.1)

pub in_from : (s : SealState) → is_fenced s.hold ≡ true → is_in s s.epoch ≡ true
in_from s is = and_from (is_fenced s.hold) (nat_eq s.epoch s.epoch) is (eq-eqb s.epoch s.epoch refl)

-- who is fenced begins nothing
pub fenced_holds : (hold : Hold) → is_fenced hold ≡ true → begins hold ≡ false
fenced_holds Open is = absurd (false≢true is)
fenced_holds Held is = refl
fenced_holds Fenced is = refl

-- How a seal changes as a phase is followed: it stays as it was, or it is in none any more, or in a later one in which
-- nothing has come.
pub data Turns (old new : SealState) : Type 0 where
  Stays : new ≡ old → Turns old new
  Leaves : new.epoch ≡ old.epoch → is_fenced new.hold ≡ false → new.marks ≡ old.marks → Turns old new
  Anew : old.epoch < new.epoch → new.marks ≡ no_marks → new.passed ≡ none_passed → Turns old new

turns_sealed : (s : SealState) (epoch : ℕ) → Turns s (sealed s epoch)
turns_sealed s epoch = cond_both (is_in s epoch) s (changed s epoch) (Turns s) (λ e. Stays refl) (λ e. other)
  where
    other : Turns s (changed s epoch)
    other = cond_both (nat_lt s.epoch epoch)
        (record s { epoch = epoch; hold = Fenced; marks = no_marks; passed = none_passed; sent = None })
        (record s { hold = Held }) (Turns s)
        (λ less. Anew (ltb-true s.epoch epoch less) refl refl)
        (λ no. Leaves refl refl refl)

pub turns : (s : SealState) (phase : Phase) → Turns s (followed s phase)
turns s Started = Leaves refl refl refl
turns s Serving = Leaves refl refl refl
turns s (Sealed a) = turns_sealed s a.epoch
turns s (Switched a) = turns_sealed s a.epoch

-- whose seal it is stays
pub record IsSame (old new : SealState) : Type 0 where
  pub id : new.id ≡ old.id
  pub members : new.members ≡ old.members
  pub threads : new.threads ≡ old.threads
  pub generation : new.generation ≡ old.generation

same_sealed : (s : SealState) (epoch : ℕ) → IsSame s (sealed s epoch)
same_sealed s epoch = cond_both (is_in s epoch) s (changed s epoch) (IsSame s)
    (λ e. record { id = refl; members = refl; threads = refl; generation = refl }) (λ e. other)
  where
    other : IsSame s (changed s epoch)
    other = cond_both (nat_lt s.epoch epoch)
        (record s { epoch = epoch; hold = Fenced; marks = no_marks; passed = none_passed; sent = None })
        (record s { hold = Held }) (IsSame s)
        (λ less. record { id = refl; members = refl; threads = refl; generation = refl })
        (λ no. record { id = refl; members = refl; threads = refl; generation = refl })

pub same_followed : (s : SealState) (phase : Phase) → IsSame s (followed s phase)
same_followed s Started = record { id = refl; members = refl; threads = refl; generation = refl }
same_followed s Serving = record { id = refl; members = refl; threads = refl; generation = refl }
same_followed s (Sealed a) = same_sealed s a.epoch
same_followed s (Switched a) = same_sealed s a.epoch

pub same_passed : (s : SealState) (thread epoch : ℕ) → IsSame s (passed_by s thread epoch)
same_passed s thread epoch = cond_both (is_in s epoch) (record s { passed = slice_set s.passed thread true }) s
    (IsSame s)
    (λ e. record { id = refl; members = refl; threads = refl; generation = refl })
    (λ e. record { id = refl; members = refl; threads = refl; generation = refl })

pub same_marked : (s : SealState) (from : ℕ) (m : Marker) → IsSame s (marked_by s from m)
same_marked s from m =
    cond_both (is_own s m) (record s { marks = slice_set s.marks from (Some m.numbers) }) s (IsSame s)
    (λ e. record { id = refl; members = refl; threads = refl; generation = refl })
    (λ e. record { id = refl; members = refl; threads = refl; generation = refl })

-- ---- a thread's marker

-- What is passed after a thread's marker was taken.
pub record IsPassedBy (thread epoch : ℕ) (old new : SealState) : Type 0 where
  pub epoch_is : new.epoch ≡ old.epoch
  pub hold : new.hold ≡ old.hold
  pub marks : new.marks ≡ old.marks
  pub after : (k : ℕ) → has_passed new.passed k ≡ true
      → ((k ≡ thread) × (is_in old epoch ≡ true)) ⊎ (has_passed old.passed k ≡ true)
  pub stays : (k : ℕ) → has_passed old.passed k ≡ true → has_passed new.passed k ≡ true

pub is_passed_by : (s : SealState) (thread epoch : ℕ) → IsPassedBy thread epoch s (passed_by s thread epoch)
is_passed_by s thread epoch =
    cond_both (is_in s epoch) (record s { passed = slice_set s.passed thread true }) s (IsPassedBy thread epoch s)
    (λ e. record {
      epoch_is = refl;
      hold = refl;
      marks = refl;
      after = λ k is. elim (passed_after s.passed thread k is) [ inl same ↦ inl (same, e) | inr before ↦ inr before ];
      stays = λ k is. passed_stays s.passed thread k is;
    })
    (λ e. record { epoch_is = refl; hold = refl; marks = refl; after = λ k is. inr is; stays = λ k is. is })

-- ---- a peer's marker

pub record IsMarkedBy (from : ℕ) (m : Marker) (old new : SealState) : Type 0 where
  pub epoch_is : new.epoch ≡ old.epoch
  pub hold : new.hold ≡ old.hold
  pub passed : new.passed ≡ old.passed
  pub after : (i : ℕ) (found : Numbers) → mark_at new.marks i ≡ Some found
      → (mark_at old.marks i ≡ Some found) ⊎ ((i ≡ from) × (m.numbers ≡ found))

pub is_marked_by : (s : SealState) (from : ℕ) (m : Marker) → IsMarkedBy from m s (marked_by s from m)
is_marked_by s from m =
    cond_both (is_own s m) (record s { marks = slice_set s.marks from (Some m.numbers) }) s (IsMarkedBy from m s)
    (λ e. record {
      epoch_is = refl;
      hold = refl;
      passed = refl;
      after = λ i found is. mark_after s.marks from i m.numbers found is;
    })
    (λ e. record { epoch_is = refl; hold = refl; passed = refl; after = λ i found is. inl is })
