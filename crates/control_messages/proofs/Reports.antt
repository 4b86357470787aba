-- What members report and mark.
use Rattle.std.proofs.Common.{◌≡◌, ℕ, ◌<◌, ◌^◌, Bool, eqb, List, [], ◌∷◌, ◌++◌, Some, refl, ap, inl, inr}
use Rattle.successions.specs.declared.members.Members.{Members}
use Rattle.successions.specs.declared.members.Acceptance.{Acceptance}
use Rattle.successions.specs.declared.orders.Phase.{Phase}
use Rattle.successions.specs.declared.orders.Phase.TheVariants.{Started, Serving, Sealed, Switched}
use Rattle.successions.specs.declared.orders.Standing.{Standing}
use Rattle.successions.specs.declared.orders.Report.{Report}
use Rattle.seals.specs.declared.markers.Numbers.{Numbers}
use Rattle.seals.specs.declared.markers.Marker.{Marker}
use Rattle.control_messages.specs.Spellings.{AreNumbers, HasMembers, HasMarkerWidths, HasPhaseWidths, HasStandingWidths}
use Rattle.control_messages.specs.Spellings.{acceptance_numbers, alone, marker_numbers, phase_numbers}
use Rattle.control_messages.specs.Spellings.{report_numbers, spelled, standing_numbers}
use Rattle.control_messages.specs.Readings.{number_at, acceptance_at}
use Rattle.control_messages.specs.Readings.{phase_at, phase_of_at, standing_at, report_at, progress_at, marker_at}
use Rattle.control_messages.proofs.Spelled.{spelled_none}
use Rattle.control_messages.proofs.Formats.{IsFormat, Takes, bind_some, both, made, made_again, nothing}
use Rattle.control_messages.proofs.Choices.{chosen, picked, tag_again}
use Rattle.control_messages.proofs.Fields.{number, narrow, a_flag, members}

-- what is said of an acceptance
abbrev Accepted : Acceptance → Type 0
Accepted a = HasMembers a.next

acceptance : IsFormat acceptance_at acceptance_numbers Accepted
unfolding acceptance_at
acceptance =
    made {A = ℕ × Members} {B = Acceptance} _ _ _ (λ p. record { epoch = p.0; next = p.1 }) (λ a. (a.epoch, a.next))
    acceptance_numbers Accepted (both _ _ _ _ _ _ number members) (λ p. refl) (λ a. refl) (λ p h. h.1)
    (λ a h. (tt, h))

-- what is read after a code
phase_takes : (n : ℕ) (bytes after : List ℕ) (x : Phase) (rest : List ℕ)
    → Takes (alone n) (Unit {0}) bytes after
    → phase_of_at n after ≡ Some (x, rest)
    → Takes (phase_numbers x) (HasPhaseWidths x) bytes rest
unfolding phase_of_at
phase_takes n bytes after x rest t e =
    elim (chosen (eqb n 0) _ _ _ e) [
      | inl started ↦
          picked {A = Unit {0}} (λ bytes. Some (tt, bytes)) (λ u. []) (λ u. Unit {0}) (λ u. Started) phase_numbers
          HasPhaseWidths n 0 bytes after x rest nothing (λ u. refl) (λ u h. tt) t started.0 started.1
      | inr e0 ↦ elim (chosen (eqb n 1) _ _ _ e0.1) [
        | inl serving ↦
            picked {A = Unit {0}} (λ bytes. Some (tt, bytes)) (λ u. []) (λ u. Unit {0}) (λ u. Serving) phase_numbers
            HasPhaseWidths n 1 bytes after x rest nothing (λ u. refl) (λ u h. tt) t serving.0 serving.1
        | inr e1 ↦ elim (chosen (eqb n 2) _ _ _ e1.1) [
          | inl sealed ↦
              picked acceptance_at acceptance_numbers Accepted (λ (a : Acceptance). Sealed a) phase_numbers
              HasPhaseWidths n 2 bytes after x rest acceptance (λ a. refl) (λ a h. h) t sealed.0 sealed.1
          | inr e2 ↦ elim (chosen (eqb n 3) _ _ _ e2.1) [
            | inl switched ↦
                picked acceptance_at acceptance_numbers Accepted (λ (a : Acceptance). Switched a) phase_numbers
                HasPhaseWidths n 3 bytes after x rest acceptance (λ a. refl) (λ a h. h) t switched.0 switched.1
            | inr none ↦ absurd cc
          ]
        ]
      ]
    ]

phase_again : (x : Phase) (rest : List ℕ)
    → AreNumbers (phase_numbers x)
    → HasPhaseWidths x
    → phase_at (spelled (phase_numbers x) ++ rest) ≡ Some (x, rest)
unfolding phase_at phase_of_at
phase_again Started rest each fits =
    tag_again number phase_of_at 0 [] rest Started each
    (ap (λ (t : List ℕ). Some (Started, t ++ rest)) spelled_none)
phase_again Serving rest each fits =
    tag_again number phase_of_at 1 [] rest Serving each
    (ap (λ (t : List ℕ). Some (Serving, t ++ rest)) spelled_none)
phase_again (Sealed a) rest each fits =
    tag_again number phase_of_at 2 (acceptance_numbers a) rest (Sealed a) each
    (made_again acceptance_at acceptance_numbers Accepted (λ (a : Acceptance). Sealed a) a rest acceptance each.1 fits)
phase_again (Switched a) rest each fits =
    tag_again number phase_of_at 3 (acceptance_numbers a) rest (Switched a) each
    (made_again acceptance_at acceptance_numbers Accepted (λ (a : Acceptance). Switched a) a rest acceptance each.1
    fits)

phase : IsFormat phase_at phase_numbers HasPhaseWidths
unfolding phase_at
phase = record {
  takes = λ bytes x rest fits e.
      let a = bind_some (number_at bytes) (λ n. phase_of_at n.0 n.1) (x, rest) e in
      phase_takes a.0.0 bytes a.0.1 x rest (number.takes bytes a.0.0 a.0.1 fits a.1) a.2;
  again = phase_again;
}

standing : IsFormat standing_at standing_numbers HasStandingWidths
unfolding standing_at
standing =
    made {A = ℕ × (ℕ × (ℕ × Bool))} {B = Standing} _ _ _
    (λ p. record { view = p.0; last = p.1.0; committed = p.1.1.0; idle = p.1.1.1 })
    (λ s. (s.view, (s.last, (s.committed, s.idle)))) standing_numbers HasStandingWidths
    (both _ _ _ _ _ _ (narrow (2 ^ 16)) (both _ _ _ _ _ _ number (both _ _ _ _ _ _ number a_flag)))
    (λ p. refl) (λ s. refl) (λ p h. h.0) (λ s h. (h, (tt, (tt, tt))))

-- what is said of a report
abbrev pub Reported : Report → Type 0
Reported r = HasPhaseWidths r.phase × HasStandingWidths r.standing

-- a member's report
pub report : IsFormat report_at report_numbers Reported
unfolding report_at
report =
    made {A = ℕ × (ℕ × (ℕ × (Phase × Standing)))} {B = Report} _ _ _
    (λ p. record {
      number = p.0;
      epoch = p.1.0;
      generation = p.1.1.0;
      phase = p.1.1.1.0;
      standing = p.1.1.1.1;
    }) (λ r. (r.number, (r.epoch, (r.generation, (r.phase, r.standing))))) report_numbers Reported
    (both _ _ _ _ _ _ number (both _ _ _ _ _ _ number (both _ _ _ _ _ _ number (both _ _ _ _ _ _ phase standing))))
    (λ p. refl) (λ r. refl) (λ p h. (h.1.1.1.0, h.1.1.1.1)) (λ r h. (tt, (tt, (tt, (h.0, h.1)))))

-- how far a member is
abbrev progress_numbers : Numbers → List ℕ
progress_numbers n = n.view ∷ n.last ∷ n.committed ∷ []

abbrev Progressed : Numbers → Type 0
Progressed n = n.view < 2 ^ 16

progress : IsFormat progress_at progress_numbers Progressed
unfolding progress_at
progress =
    made {A = ℕ × (ℕ × ℕ)} {B = Numbers} _ _ _ (λ p. record { view = p.0; last = p.1.0; committed = p.1.1 })
    (λ n. (n.view, (n.last, n.committed))) progress_numbers Progressed
    (both _ _ _ _ _ _ (narrow (2 ^ 16)) (both _ _ _ _ _ _ number number))
    (λ p. refl) (λ n. refl) (λ p h. h.0) (λ n h. (h, (tt, tt)))

-- a marker
pub marker : IsFormat marker_at marker_numbers HasMarkerWidths
unfolding marker_at
marker =
    made {A = ℕ × (ℕ × Numbers)} {B = Marker} _ _ _ (λ p. record { generation = p.0; epoch = p.1.0; numbers = p.1.1 })
    (λ m. (m.generation, (m.epoch, m.numbers))) marker_numbers HasMarkerWidths
    (both _ _ _ _ _ _ number (both _ _ _ _ _ _ number progress))
    (λ p. refl) (λ m. refl) (λ p h. h.1.1) (λ m h. (tt, (tt, h)))
