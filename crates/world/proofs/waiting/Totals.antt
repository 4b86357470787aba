-- Sums over the first numbers, and how many entries there are of all origins together.
use Rattle.std.proofs.Common.{◌≡◌, ◌≢◌, ℕ, zero, suc, ◌+◌, ◌<◌, ◌≤◌, false, cond, List, [], ◌∷◌, length, Some, sym}
use Rattle.std.proofs.Common.{refl, arith, inl, inr, ap}
use Rattle.std.specs.Prelude.{slice_get, ◌==◌}
use Rattle.std.proofs.lemmas.Bool.{cases_eq, eq-eqb, ne_eqb}
use Rattle.versions.specs.Entries.{LogEntry}
use Rattle.world.proofs.trace.Layers.{entries_of}

-- the sum of f over the first n numbers
abbrev pub total : (ℕ → ℕ) → ℕ → ℕ
total f zero = 0
total f (suc n) = total f n + f n

-- if no summand is greater, the sum isn't either
pub total_low : (f g : ℕ → ℕ) (n : ℕ) → ((o : ℕ) → o < n → f o ≤ g o) → total f n ≤ total g n
total_low f g zero h = omega arith
total_low f g (suc n) h = omega (arith, total_low f g n (λ o l. h o (omega (arith, l))), h n (omega arith))

-- if one is less by some number, so is the sum
pub total_one : (f g : ℕ → ℕ) (n i : ℕ) → i < n → ((o : ℕ) → o < n → f o ≤ g o) → total f n + g i ≤ total g n + f i
total_one f g zero i l h = absurd (omega (arith, l))
total_one f g (suc n) i l h = elim (cases_eq i n) [
  | inl same ↦ rw same (omega (arith, total_low f g n (λ o p. h o (omega (arith, p)))))
  | inr other ↦ omega
      (arith, total_one f g n i (omega (arith, l, other)) (λ o p. h o (omega (arith, p))), h n (omega arith))
]

-- and if two are
pub total_two : (f g : ℕ → ℕ) (n i j : ℕ)
    → i ≢ j
    → i < n
    → j < n
    → ((o : ℕ) → o < n → f o ≤ g o)
    → total f n + g i + g j ≤ total g n + f i + f j
total_two f g zero i j apart l k h = absurd (omega (arith, l))
total_two f g (suc n) i j apart l k h = elim (cases_eq i n) [
  | inl same ↦ (let one = total_one f g n j (omega (arith, k, apart, same)) (λ o p. h o (omega (arith, p))) in rw same
      (omega (arith, one)))
  | inr other ↦ elim (cases_eq j n) [
    | inl same ↦ (let one = total_one f g n i (omega (arith, l, other)) (λ o p. h o (omega (arith, p))) in rw same
        (omega (arith, one)))
    | inr also ↦ omega (
      arith,
      total_two f g n i j apart (omega (arith, l, other)) (omega (arith, k, also))
          (λ o p. h o (omega (arith, p))),
      h n (omega arith),
    )
  ]
]

-- if one grows by at most one, the sum does
pub total_grows : (f g : ℕ → ℕ) (k n a : ℕ) → ((o : ℕ) → o ≢ a → g o ≤ f o) → g a ≤ f a + k → total g n ≤ total f n + k
total_grows f g k zero a h one = omega arith
total_grows f g k (suc n) a h one = elim (cases_eq n a) [
  | inl same ↦ (let low = total_low g f n (λ o l. h o (λ e. omega (arith, l, e, same))) in omega
      (arith, low, one, ap g same, ap f same))
  | inr other ↦ omega (arith, total_grows f g k n a h one, h n other)
]

-- the sum of zeros is zero
pub total_none : (f : ℕ → ℕ) (n : ℕ) → ((o : ℕ) → f o ≡ 0) → total f n ≡ 0
total_none f zero h = refl
total_none f (suc n) h = omega (arith, total_none f n h, h n)

-- ---- entries

no_more : (c : ℕ → ℕ) (n i : ℕ) → n ≤ i → total (λ o. cond (i == o) (suc (c o)) (c o)) n ≡ total c n
no_more c zero i le = refl
no_more c (suc n) i le =
    let apart : (i == n) ≡ false = ne_eqb i n (λ e. omega (arith, e, le)) in
    let rest = no_more c n i (omega (arith, le)) in
    rw apart (omega (arith, rest))

-- one more at one place
one_more : (c : ℕ → ℕ) (n i : ℕ) → i < n → total (λ o. cond (i == o) (suc (c o)) (c o)) n ≡ total c n + 1
one_more c zero i l = absurd (omega (arith, l))
one_more c (suc n) i l = elim (cases_eq i n) [
  | inl same ↦ (let rest = no_more c n i (omega (arith, same)) in rw (eq-eqb i n same) (omega (arith, rest)))
  | inr other ↦ (let rest = one_more c n i (omega (arith, l, other)) in rw (ne_eqb i n other) (omega (arith, rest)))
]

-- a log has as many entries as there are of all origins together
pub entries_total : (es : List LogEntry) (n : ℕ)
    → ((k : ℕ) (e : LogEntry) → slice_get es k ≡ Some e → e.origin < n)
    → length es ≡ total (λ o. entries_of o es) n
unfolding entries_of
entries_total [] n h = sym (total_none (λ o. 0) n (λ o. refl))
entries_total (e ∷ es) n h =
    let rest = entries_total es n (λ k x g. h (suc k) x g) in
    omega (arith, rest, one_more (λ o. entries_of o es) n e.origin (h 0 e refl))
