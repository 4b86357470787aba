-- What views tell.
use Rattle.std.proofs.Common.{◌≡◌, ℕ, zero, suc, ◌+◌, ◌<◌, ◌≤◌, Bool, true, false, Option, Some, None, refl, arith, inl}
use Rattle.std.proofs.Common.{inr, cond}
use Rattle.std.specs.Prelude.{◌||◌}
use Rattle.std.proofs.lemmas.Bool.{cases_eq, ltb-true, lt-ltb}
use Rattle.std.proofs.lemmas.Bool.Decides.{nat_tests}
use Rattle.std.proofs.lemmas.Nat.{or_lt, pow_below, pow_pos}
use Rattle.std.proofs.lemmas.Nat.Bits.{bit_at_or, bit_at-lt, bit_at-pow_other, bit_at-pow_same, bit_at-zero}
use Rattle.std.proofs.lemmas.Nat.Bits.{bit_at_above}
use Rattle.std.proofs.lemmas.Option.{same_Some}
use Rattle.node.specs.Views.{View, has, union, single, is_below, next_from, predecessor}
pub use Rattle.node.specs.Chains.{IsNext, IsPredecessor}

-- a union names whom one of the two views names
pub has-union : (u v : View) (i : ℕ) → has (union u v) i ≡ (has u i || has v i)
unfolding has union
has-union u v i = grind (arith, nat_tests, bit_at_or u v i, bit_at-lt u i, bit_at-lt v i)

-- the single view names nobody else
pub has-single_other : (j i : ℕ) → (i ≡ j → ⊥) → has (single j) i ≡ false
unfolding has single
has-single_other j i other = rw (bit_at-pow_other j i other) refl

-- whom a single view names is its server
pub has_single : (j i : ℕ) → has (single j) i ≡ true → i ≡ j
has_single j i h =
    elim (cases_eq i j) [
      | inl same ↦ same
      | inr other ↦
          (let never : has (single j) i ≡ false = has-single_other j i other in absurd cc)
    ]

-- a single view names its server
pub has-single_itself : (j : ℕ) → has (single j) j ≡ true
unfolding has single
has-single_itself j = rw (bit_at-pow_same j) refl

-- the empty view names nobody
pub nowhere : (i : ℕ) → has 0 i ≡ false
unfolding has
nowhere i = rw (bit_at-zero i) refl

-- if two views name servers of the chain alone, so does their union
pub below-union : (u v : View) (count : ℕ)
    → is_below u count ≡ true
    → is_below v count ≡ true
    → is_below (union u v) count ≡ true
unfolding is_below union
below-union u v count h g = lt-ltb _ _ (or_lt count u v (ltb-true _ _ h) (ltb-true _ _ g))

-- the empty view names servers of the chain alone
pub below-empty : (count : ℕ) → is_below 0 count ≡ true
unfolding is_below
below-empty count = lt-ltb _ _ (pow_pos count)

-- the single view of a server of the chain names servers of the chain alone
pub below-single : (j count : ℕ) → j < count → is_below (single j) count ≡ true
unfolding is_below single
below-single j count h = lt-ltb _ _ (pow_below j count h)

-- a view below the count names nobody at or above it
pub named-below : (v : View) (count i : ℕ) → is_below v count ≡ true → count ≤ i → has v i ≡ false
unfolding is_below has
named-below v count i h le = rw (bit_at_above v count i (ltb-true _ _ h) le) refl

next_step : (v : View) (k j : ℕ) (b : Bool) (rest : Option ℕ)
    → has v k ≡ b
    → (rest ≡ Some j → IsNext v (suc k) j)
    → cond b rest (Some k) ≡ Some j
    → IsNext v k j
next_step v k j true rest e f h =
    let r = f h in
    record {
      above = omega (arith, r.above);
      out = r.out;
      between = λ x a l. elim (cases_eq x k) [ inl same ↦ rw same e | inr other ↦ r.between x (omega arith) l ];
    }
next_step v k j false rest e f h =
    let same = same_Some k j h in
    record { above = omega arith; out = rw (← same) e; between = λ x a l. absurd (omega arith) }

-- what `next_from` finds is the nearest server outside the view from there on
pub next_is : (v : View) (k many j : ℕ) → next_from v k many ≡ Some j → IsNext v k j
unfolding next_from
next_is v k zero j h = grind arith
next_is v k (suc many) j h = next_step v k j (has v k) (next_from v (suc k) many) refl (next_is v (suc k) many j) h

within_step : (k many j : ℕ) (b : Bool) (rest : Option ℕ)
    → (rest ≡ Some j → j < suc k + many)
    → cond b rest (Some k) ≡ Some j
    → j < k + suc many
within_step k many j true rest f h = omega (arith, f h)
within_step k many j false rest f h = let same = same_Some k j h in omega arith

-- what `next_from` finds is among those that it looks at
pub next_within_many : (v : View) (k many j : ℕ) → next_from v k many ≡ Some j → j < k + many
unfolding next_from
next_within_many v k zero j h = absurd cc
next_within_many v k (suc many) j h =
    within_step k many j (has v k) (next_from v (suc k) many) (next_within_many v (suc k) many j) h

-- if there is none, all are in the view
all_step : (v : View) (k many : ℕ) (b : Bool) (rest : Option ℕ)
    → has v k ≡ b
    → (rest ≡ None → (x : ℕ) → suc k ≤ x → x < suc k + many → has v x ≡ true)
    → cond b rest (Some k) ≡ None
    → (x : ℕ)
    → k ≤ x
    → x < k + suc many
    → has v x ≡ true
all_step v k many true rest e f h x a l =
    elim (cases_eq x k) [ inl same ↦ rw same e | inr other ↦ f h x (omega arith) (omega arith) ]
all_step v k many false rest e f h x a l = absurd cc

-- if `next_from` finds none, the view names all that it looks at
pub no_next : (v : View) (k many : ℕ) → next_from v k many ≡ None → (x : ℕ) → k ≤ x → x < k + many → has v x ≡ true
unfolding next_from
no_next v k zero h x a l = absurd (omega arith)
no_next v k (suc many) h x a l =
    all_step v k many (has v k) (next_from v (suc k) many) refl (no_next v (suc k) many) h x a l

predecessor_step : (v : View) (k p : ℕ) (b : Bool) (rest : Option ℕ)
    → has v k ≡ b
    → (rest ≡ Some p → IsPredecessor v k p)
    → cond b rest (Some k) ≡ Some p
    → IsPredecessor v (suc k) p
predecessor_step v k p true rest e f h =
    let r = f h in
    record {
      below = omega (arith, r.below);
      out = r.out;
      between = λ x a l. elim (cases_eq x k) [ inl same ↦ rw same e | inr other ↦ r.between x a (omega arith) ];
    }
predecessor_step v k p false rest e f h =
    let same = same_Some k p h in
    record { below = omega arith; out = rw (← same) e; between = λ x a l. absurd (omega arith) }

-- the predecessor that is found is the nearest server below outside the view
pub predecessor_is : (v : View) (i p : ℕ) → predecessor v i ≡ Some p → IsPredecessor v i p
unfolding predecessor
predecessor_is v zero p h = grind arith
predecessor_is v (suc k) p h = predecessor_step v k p (has v k) (predecessor v k) refl (predecessor_is v k p) h

none_step : (v : View) (k : ℕ) (b : Bool) (rest : Option ℕ)
    → has v k ≡ b
    → (rest ≡ None → (x : ℕ) → x < k → has v x ≡ true)
    → cond b rest (Some k) ≡ None
    → (x : ℕ)
    → x < suc k
    → has v x ≡ true
none_step v k true rest e f h x l = elim (cases_eq x k) [ inl same ↦ rw same e | inr other ↦ f h x (omega arith) ]
none_step v k false rest e f h x l = absurd cc

-- if no predecessor is found, the view names all servers below
pub no_predecessor : (v : View) (i : ℕ) → predecessor v i ≡ None → (x : ℕ) → x < i → has v x ≡ true
unfolding predecessor
no_predecessor v zero h x l = grind arith
no_predecessor v (suc k) h x l = none_step v k (has v k) (predecessor v k) refl (no_predecessor v k) h x l
