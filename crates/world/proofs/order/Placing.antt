-- Updates and reads in one list: each update at its number, and after it the reads of that number in the order of
-- their answers.
use Rattle.std.proofs.Common.{◌≡◌, ℕ, zero, suc, ◌<◌, List, [], ◌∷◌, ◌++◌, Some, refl, sym, ◌∙◌, arith, ◌⊎◌, inl, inr}
use Rattle.std.specs.Prelude.{slice_get, ◌==◌, if◌then◌else◌}
use Rattle.std.proofs.lemmas.Bool.{cases_order}
use Rattle.std.proofs.lemmas.Option.{same_Some}
use Rattle.table.specs.declared.operations.Call.{Call}
use Rattle.table.specs.declared.operations.Reply.TheVariants.{Value}
use Rattle.versions.specs.Entries.{LogEntry}
use Rattle.world.specs.Calls.{CallId}
use Rattle.world.specs.Orders.{OrderedCall}
use Rattle.node.proofs.Lists.{In, in_joined}
use Rattle.world.proofs.trace.Traces.{AnsweredRead}

-- A call of the order with its rank: a number, and a turn among those of this number.
pub record Placed : Type 0 where
  pub number : ℕ
  pub turn : ℕ
  pub entry : OrderedCall

-- one stands before the other
abbrev pub IsBefore : Placed → Placed → Type 0
IsBefore p q = (p.number < q.number) ⊎ ((p.number ≡ q.number) × (p.turn < q.turn))

-- one stands before each of these
abbrev pub IsBelow : Placed → List Placed → Type 0
IsBelow p [] = Unit {0}
IsBelow p (q ∷ qs) = IsBefore p q × IsBelow p qs

-- each stands before all after it
abbrev pub Sorted : List Placed → Type 0
Sorted [] = Unit {0}
Sorted (p ∷ ps) = IsBelow p ps × Sorted ps

-- the name of an update, and the call of a name
module _ (name : LogEntry → CallId) (asked : CallId → Call) where
  -- the k-th entry, counted from 0, with its rank: its number, and the first turn
  abbrev pub of_update : ℕ → LogEntry → Placed
  of_update k e =
      record { number = suc k; turn = 0; entry = record { id = name e; call = asked (name e); reply = e.reply } }

  -- the q-th answered read, with its rank: its number, and a turn after the update of this number
  abbrev pub of_read : ℕ → AnsweredRead → Placed
  of_read q r =
      record { number = r.number; turn = suc q; entry = record { id = r.id; call = asked r.id; reply = Value r.item } }

  -- the reads of a number, the first of these having the place q
  unfoldable pub reads_at : ℕ → ℕ → List AnsweredRead → List Placed
  reads_at n q [] = []
  reads_at n q (r ∷ rs) = if r.number == n then of_read q r ∷ reads_at n (suc q) rs else reads_at n (suc q) rs

  -- the updates from number n + 1 on, with the reads from number n on
  unfoldable pub placed : List AnsweredRead → ℕ → List LogEntry → List Placed
  placed rs n [] = reads_at n 0 rs
  placed rs n (e ∷ es) = reads_at n 0 rs ++ of_update n e ∷ placed rs (suc n) es

-- ---- sorted lists

-- what comes before each element of a list comes before all of them
pub below_each : (p : Placed) (ps : List Placed) → ((x : Placed) → In x ps → IsBefore p x) → IsBelow p ps
below_each p [] f = tt
below_each p (q ∷ ps) f = (f q (0, refl), below_each p ps (λ x h. f x (suc h.0, h.1)))

-- what comes before all elements of a list comes before each
pub each_below : (p : Placed) (ps : List Placed) (x : Placed) → IsBelow p ps → In x ps → IsBefore p x
each_below p [] x b h = absurd cc
each_below p (q ∷ ps) x b (zero, h) = rw (same_Some q x h) at b.0
each_below p (q ∷ ps) x b (suc k, h) = each_below p ps x b.1 (k, h)

-- two sorted lists are one, if each of the first comes before each of the second
pub sorted_joined : (ps qs : List Placed)
    → Sorted ps
    → Sorted qs
    → ((p q : Placed) → In p ps → In q qs → IsBefore p q)
    → Sorted (ps ++ qs)
sorted_joined [] qs s t f = t
sorted_joined (p ∷ ps) qs s t f = (
  below_each p (ps ++ qs)
      (λ x h. elim (in_joined ps qs x h) [ inl g ↦ each_below p ps x s.0 g | inr g ↦ f p x (0, refl) g ]),
  sorted_joined ps qs s.1 t (λ x y h g. f x y (suc h.0, h.1) g),
)

-- what stands earlier comes before
pub sorted_ordinals : (ps : List Placed) (i j : ℕ) (p q : Placed)
    → Sorted ps
    → i < j
    → slice_get ps i ≡ Some p
    → slice_get ps j ≡ Some q
    → IsBefore p q
sorted_ordinals [] i j p q s l h g = absurd cc
sorted_ordinals (x ∷ ps) zero zero p q s l h g = absurd (omega arith)
sorted_ordinals (x ∷ ps) zero (suc j) p q s l h g = rw (same_Some x p h) at (each_below x ps q s.0 (j, g))
sorted_ordinals (x ∷ ps) (suc i) zero p q s l h g = absurd (omega arith)
sorted_ordinals (x ∷ ps) (suc i) (suc j) p q s l h g = sorted_ordinals ps i j p q s.1 (omega arith) h g

-- none comes before itself
pub never_before_itself : (p : Placed) → IsBefore p p → ⊥
never_before_itself p h = elim h [ inl less ↦ absurd (omega arith) | inr less ↦ absurd (omega (arith, less.1)) ]

-- of two only one comes before the other
pub never_both : (p q : Placed) → IsBefore p q → IsBefore q p → ⊥
never_both p q h g = elim h [
  | inl less ↦ elim g [ inl more ↦ absurd (omega arith) | inr more ↦ absurd (omega (arith, more.0)) ]
  | inr less ↦ elim g [ inl more ↦ absurd (omega (arith, less.0)) | inr more ↦ absurd (omega (arith, less.1, more.1)) ]
]

-- what comes before stands earlier
pub before_ordinals : (ps : List Placed) (i j : ℕ) (p q : Placed)
    → Sorted ps
    → IsBefore p q
    → slice_get ps i ≡ Some p
    → slice_get ps j ≡ Some q
    → i < j
before_ordinals ps i j p q s b h g = elim (cases_order i j) [
  | inl same ↦ absurd (never_before_itself q (rw (same_Some p q (sym h ∙ rw (← same) at g)) at b))
  | inr other ↦ elim other [
    | inl less ↦ less
    | inr greater ↦ absurd (never_both p q b (sorted_ordinals ps j i q p s greater g h))
  ]
]
