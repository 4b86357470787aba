-- Where the seat of a port stands.
use Rattle.std.proofs.Common.{◌≡◌, ◌≢◌, ℕ, zero, suc, ◌<◌, true, false, cond, List, [], ◌∷◌, Some, refl, arith, ap}
use Rattle.std.proofs.Common.{sym, ◌∙◌, subst, inl, inr, eq-eqb}
use Rattle.std.specs.Prelude.{◌==◌, ◌&&◌, slice_get, slice_index_or}
use Rattle.std.proofs.lemmas.Bool.{cases_eq, ne_eqb, and_left, and_right}
use Rattle.std.proofs.lemmas.Option.{get_or_from_slice_get}
use Rattle.interleavings.specs.OwnPorts.{seats_at, port_at}
use Rattle.interleavings.proofs.ports.SeatNames.{seat_named}
use Rattle.local_histories.specs.Objects.{OpenedChain}
use Rattle.local_histories.specs.Standing.{seat_in, home_of, port_of}

-- a port that a server has is that of a seat there
pub seat_has : (homes : List ℕ) (i p : ℕ)
    → p < seats_at homes i
    → (slice_get homes (seat_in homes i p) ≡ Some i) × (port_at homes (seat_in homes i p) i ≡ p)
seat_has [] i p below = absurd (omega (arith, below))
seat_has (home ∷ homes) i zero below = elim (cases_eq home i) [
  | inl same ↦
      subst (λ c. (slice_get (home ∷ homes) c ≡ Some i) × (port_at (home ∷ homes) c i ≡ 0))
      (sym (ap (λ b. cond b 0 (suc (seat_in homes i zero))) (eq-eqb home i same)))
      (ap (λ x. Some x) same, refl)
  | inr other ↦
      let f : (home == i) ≡ false = ne_eqb home i other in
      let rest = seat_has homes i zero (subst (λ b. 0 < cond b (suc (seats_at homes i)) (seats_at homes i)) f below) in
      let c = seat_in homes i zero in
      subst (λ c. (slice_get (home ∷ homes) c ≡ Some i) × (port_at (home ∷ homes) c i ≡ 0))
      (sym (ap (λ b. cond b 0 (suc (seat_in homes i zero))) f))
      (rest.0, ap (λ b. cond b (suc (port_at homes c i)) (port_at homes c i)) f ∙ rest.1)
]
seat_has (home ∷ homes) i (suc p) below = elim (cases_eq home i) [
  | inl same ↦
      let t : (home == i) ≡ true = eq-eqb home i same in
      let within : suc p < suc (seats_at homes i) =
      subst (λ b. suc p < cond b (suc (seats_at homes i)) (seats_at homes i)) t below in
      let rest = seat_has homes i p (omega (arith, within)) in
      let c = seat_in homes i p in
      subst (λ c. (slice_get (home ∷ homes) c ≡ Some i) × (port_at (home ∷ homes) c i ≡ suc p))
      (sym (ap (λ b. cond b (suc (seat_in homes i p)) (suc (seat_in homes i (suc p)))) t))
      (rest.0, ap (λ b. cond b (suc (port_at homes c i)) (port_at homes c i)) t ∙ ap suc rest.1)
  | inr other ↦
      let f : (home == i) ≡ false = ne_eqb home i other in
      let rest = seat_has homes i (suc p)
      (subst (λ b. suc p < cond b (suc (seats_at homes i)) (seats_at homes i)) f below) in
      let c = seat_in homes i (suc p) in
      subst (λ c. (slice_get (home ∷ homes) c ≡ Some i) × (port_at (home ∷ homes) c i ≡ suc p))
      (sym (ap (λ b. cond b (suc (seat_in homes i p)) (suc (seat_in homes i (suc p)))) f))
      (rest.0, ap (λ b. cond b (suc (port_at homes c i)) (port_at homes c i)) f ∙ rest.1)
]

-- a seat at a server of the chain stands among the homes
seat_there : (xs : List ℕ) (k n i : ℕ) → i ≡ slice_index_or xs k n → i < n → slice_get xs k ≡ Some i
seat_there [] k n i e below = absurd (omega (arith, e, below))
seat_there (x ∷ xs) zero n i e below = ap (λ y. Some y) (sym e)
seat_there (x ∷ xs) (suc k) n i e below = seat_there xs k n i e below

module _ (s : OpenedChain) (i p : ℕ) (within : i < s.count) (below : p < seats_at s.homes i) where
  -- it is at its server,
  pub home_there : home_of s (seat_in s.homes i p) ≡ i
  home_there = get_or_from_slice_get s.homes (seat_in s.homes i p) i s.count (seat_has s.homes i p below).0

  -- with that port;
  pub port_there : port_of s (seat_in s.homes i p) ≡ p
  port_there = ap (port_at s.homes (seat_in s.homes i p)) home_there ∙ (seat_has s.homes i p below).1

  -- and no other seat has both
  pub not_there : (d : ℕ) → seat_in s.homes i p ≢ d → (i == home_of s d && p == port_of s d) ≡ false
  not_there d other = elim (cases_eq i (home_of s d)) [
    | inr away ↦ and_left _ _ (ne_eqb i (home_of s d) away)
    | inl same ↦ elim (cases_eq p (port_of s d)) [
      | inr away ↦ and_right _ _ (ne_eqb p (port_of s d) away)
      | inl alike ↦ absurd (other (
          let there : slice_get s.homes d ≡ Some i = seat_there s.homes d s.count i same within in
          ap (seat_in s.homes i) (alike ∙ ap (port_at s.homes d) (sym same)) ∙ seat_named s.homes d i there
          ))
    ]
  ]
