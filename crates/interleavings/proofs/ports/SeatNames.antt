-- Ports that each server numbers for itself: which seat has a port.
use Rattle.std.proofs.Common.{◌≡◌, ℕ, zero, suc, ◌<◌, Bool, true, false, cond, List, [], ◌∷◌, Some, refl, arith, ap}
use Rattle.std.proofs.Common.{sym, ◌∙◌, inl, inr, eq-eqb}
use Rattle.std.specs.Prelude.{slice_get, ◌==◌}
use Rattle.std.proofs.lemmas.Bool.{cases_eq, ne_eqb}
use Rattle.std.proofs.lemmas.Option.{same_Some}
use Rattle.interleavings.specs.OwnPorts.{seats_at, port_at}

-- the seat that has port p at server i, by the homes of the seats; a port that no seat has counts on after all seats
abbrev pub seat_in : List ℕ → ℕ → ℕ → ℕ
seat_in [] i p = p
seat_in (home ∷ homes) i zero = cond (home == i) 0 (suc (seat_in homes i zero))
seat_in (home ∷ homes) i (suc p) = cond (home == i) (suc (seat_in homes i p)) (suc (seat_in homes i (suc p)))

seat_behind : (home : ℕ) (homes : List ℕ) (i p : ℕ)
    → (home == i) ≡ false
    → seat_in (home ∷ homes) i p ≡ suc (seat_in homes i p)
seat_behind home homes i zero e = ap (λ b. cond b 0 (suc (seat_in homes i zero))) e
seat_behind home homes i (suc p) e =
    ap (λ b. cond b (suc (seat_in homes i p)) (suc (seat_in homes i (suc p)))) e

seat_first : (home : ℕ) (homes : List ℕ) (i : ℕ) → (home == i) ≡ true → seat_in (home ∷ homes) i zero ≡ 0
seat_first home homes i e = ap (λ b. cond b 0 (suc (seat_in homes i zero))) e

seat_later : (home : ℕ) (homes : List ℕ) (i p : ℕ)
    → (home == i) ≡ true
    → seat_in (home ∷ homes) i (suc p) ≡ suc (seat_in homes i p)
seat_later home homes i p e = ap (λ b. cond b (suc (seat_in homes i p)) (suc (seat_in homes i (suc p)))) e

port_more : (home : ℕ) (homes : List ℕ) (c i : ℕ)
    → port_at (home ∷ homes) (suc c) i ≡ cond (home == i) (suc (port_at homes c i)) (port_at homes c i)
port_more home homes c i = refl

-- each seat of a server has its port
pub seat_named : (homes : List ℕ) (c i : ℕ) → slice_get homes c ≡ Some i → seat_in homes i (port_at homes c i) ≡ c
seat_named [] c i e = absurd cc
seat_named (home ∷ homes) zero i e =
    let same : home ≡ i = same_Some home i e in
    seat_first home homes i (eq-eqb home i same)
seat_named (home ∷ homes) (suc c) i e = elim (cases_eq home i) [
  | inl same ↦
      let t : (home == i) ≡ true = eq-eqb home i same in
      ap (λ p. seat_in (home ∷ homes) i p)
      (port_more home homes c i ∙ ap (λ b. cond b (suc (port_at homes c i)) (port_at homes c i)) t)
      ∙ seat_later home homes i (port_at homes c i) t ∙ ap suc (seat_named homes c i e)
  | inr other ↦
      let f : (home == i) ≡ false = ne_eqb home i other in
      ap (λ p. seat_in (home ∷ homes) i p)
      (port_more home homes c i ∙ ap (λ b. cond b (suc (port_at homes c i)) (port_at homes c i)) f)
      ∙ seat_behind home homes i (port_at homes c i) f ∙ ap suc (seat_named homes c i e)
]

same_suc : (m n : ℕ) → suc m ≡ suc n → m ≡ n
same_suc m n e = omega (arith, e)

-- no two ports of a server are one seat's
pub seat_apart : (homes : List ℕ) (i p q : ℕ) → seat_in homes i p ≡ seat_in homes i q → p ≡ q
seat_apart [] i p q e = e
seat_apart (home ∷ homes) i p q e = elim (cases_eq home i) [
  | inl same ↦ own p q (eq-eqb home i same) e (seat_apart homes i)
  | inr other ↦
      let f : (home == i) ≡ false = ne_eqb home i other in
      seat_apart homes i p q
      (same_suc _ _ (sym (seat_behind home homes i p f) ∙ e ∙ seat_behind home homes i q f))
]
  where
    own : (p q : ℕ)
        → (home == i) ≡ true
        → seat_in (home ∷ homes) i p ≡ seat_in (home ∷ homes) i q
        → ((a b : ℕ) → seat_in homes i a ≡ seat_in homes i b → a ≡ b)
        → p ≡ q
    own zero zero t e f = refl
    own zero (suc q) t e f = absurd (let no = sym (seat_first home homes i t) ∙ e ∙ seat_later home homes i q t in
        omega (arith, no))
    own (suc p) zero t e f = absurd (let no = sym (seat_later home homes i p t) ∙ e ∙ seat_first home homes i t in
        omega (arith, no))
    own (suc p) (suc q) t e f =
        ap suc (f p q (same_suc _ _ (sym (seat_later home homes i p t) ∙ e ∙ seat_later home homes i q t)))

-- so two seats of a server have different ports
pub ports_apart : (homes : List ℕ) (c d i : ℕ)
    → slice_get homes c ≡ Some i
    → slice_get homes d ≡ Some i
    → port_at homes c i ≡ port_at homes d i
    → c ≡ d
ports_apart homes c d i e f g =
    sym (seat_named homes c i e) ∙ ap (seat_in homes i) g ∙ seat_named homes d i f

-- and they are numbered from 0 on
pub ports_below : (homes : List ℕ) (c i : ℕ) → slice_get homes c ≡ Some i → port_at homes c i < seats_at homes i
ports_below [] c i e = absurd cc
ports_below (home ∷ homes) zero i e =
    let t : (home == i) ≡ true = eq-eqb home i (same_Some home i e) in
    omega (arith, ap (λ b. cond b (suc (seats_at homes i)) (seats_at homes i)) t)
ports_below (home ∷ homes) (suc c) i e = by (home == i) (ports_below homes c i e)
  where
    by : (b : Bool)
        → port_at homes c i < seats_at homes i
        → cond b (suc (port_at homes c i)) (port_at homes c i) < cond b (suc (seats_at homes i)) (seats_at homes i)
    by true f = omega (arith, f)
    by false f = f
