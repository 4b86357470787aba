-- What stands on links and in inlets, as more is put there.
use Rattle.std.proofs.Common.{◌≡◌, ℕ, zero, suc, ◌<◌, ◌≤◌, ◌⊎◌, inl, inr, ◌+◌, Bool, true, false, ◌&&◌}
use Rattle.std.proofs.Common.{List, [], ◌∷◌, ◌++◌, Option, None, Some, refl, ap, sym, ◌∙◌, subst, arith}
use Rattle.std.proofs.Common.{replicate, slice_set, add-one}
use Rattle.std.proofs.lemmas.Bool.{cases_order, and_parts, and_from, eqb-true, eq-eqb}
use Rattle.std.proofs.lemmas.Bool.{false≢true, true≢false}
use Rattle.seals.specs.declared.markers.Numbers.{Numbers}
use Rattle.seals.specs.declared.markers.Marker.{Marker}
use Rattle.seals.specs.Seals.{all_below, is_same, names, has_passed, mark_at}
use Rattle.seals.specs.Runs.{reach, Sending, Begun, Passed, Item, Update, Mark, has_begun, has_update}
use Rattle.seals.proofs.Soundness.{Updates, Marked, Ordered, Holding, Behind}

-- ---- messages of updates

pub updates_more : (P Q : ℕ → Type 0) (link : List Item) → ((n : ℕ) → P n → Q n) → Updates P link → Updates Q link
updates_more P Q [] h all = tt
updates_more P Q (Update n ∷ rest) h all = (h n all.0, updates_more P Q rest h all.1)
updates_more P Q (Mark m ∷ rest) h all = updates_more P Q rest h all

pub updates_update : (P : ℕ → Type 0) (link : List Item) (n : ℕ) → P n → Updates P link
    → Updates P (link ++ Update n ∷ [])
updates_update P [] n this all = (this, tt)
updates_update P (Update k ∷ rest) n this all = (all.0, updates_update P rest n this all.1)
updates_update P (Mark m ∷ rest) n this all = updates_update P rest n this all

pub updates_mark : (P : ℕ → Type 0) (link : List Item) (m : Marker) → Updates P link
    → Updates P (link ++ Mark m ∷ [])
updates_mark P [] m all = tt
updates_mark P (Update k ∷ rest) m all = (all.0, updates_mark P rest m all.1)
updates_mark P (Mark k ∷ rest) m all = updates_mark P rest m all

-- what all are in two ways at once, though nothing is, is nowhere
pub no_update : (P Q : ℕ → Type 0) (link : List Item) → ((n : ℕ) → P n → Q n → ⊥) → Updates P link
    → Updates Q link → has_update link ≡ false
no_update P Q [] h one other = refl
no_update P Q (Update n ∷ rest) h one other = absurd (h n one.0 other.0)
no_update P Q (Mark m ∷ rest) h one other = no_update P Q rest h one other

pub update_mark : (link : List Item) (m : Marker) → has_update (link ++ Mark m ∷ []) ≡ has_update link
update_mark [] m = refl
update_mark (Update n ∷ rest) m = refl
update_mark (Mark k ∷ rest) m = update_mark rest m

pub none_in_rest : (item : Item) (rest : List Item) → has_update (item ∷ rest) ≡ false → has_update rest ≡ false
none_in_rest (Update n) rest is = absurd (true≢false is)
none_in_rest (Mark m) rest is = is

-- ---- markers

pub marked_more : (link : List Item) (most more : ℕ) → most ≤ more → Marked most link → Marked more link
marked_more [] most more l all = tt
marked_more (Update n ∷ rest) most more l all = marked_more rest most more l all
marked_more (Mark m ∷ rest) most more l all =
    (let here = all.0 in omega (arith, l, here), marked_more rest most more l all.1)

pub marked_update : (link : List Item) (most n : ℕ) → Marked most link → Marked most (link ++ Update n ∷ [])
marked_update [] most n all = tt
marked_update (Update k ∷ rest) most n all = marked_update rest most n all
marked_update (Mark m ∷ rest) most n all = (all.0, marked_update rest most n all.1)

pub marked_mark : (link : List Item) (most : ℕ) (m : Marker) → reach m.numbers ≤ most → Marked most link
    → Marked most (link ++ Mark m ∷ [])
marked_mark [] most m l all = (l, tt)
marked_mark (Update k ∷ rest) most m l all = marked_mark rest most m l all
marked_mark (Mark k ∷ rest) most m l all = (all.0, marked_mark rest most m l all.1)

pub ordered_update : (link : List Item) (n : ℕ) → Marked n link → Ordered link → Ordered (link ++ Update n ∷ [])
ordered_update [] n most all = tt
ordered_update (Update k ∷ rest) n most all = ordered_update rest n most all
ordered_update (Mark m ∷ rest) n most all =
    (updates_update (λ k. reach m.numbers ≤ k) rest n most.0 all.0, ordered_update rest n most.1 all.1)

pub ordered_mark : (link : List Item) (m : Marker) → Ordered link → Ordered (link ++ Mark m ∷ [])
ordered_mark [] m all = (tt, tt)
ordered_mark (Update k ∷ rest) m all = ordered_mark rest m all
ordered_mark (Mark k ∷ rest) m all = (updates_mark (λ n. reach k.numbers ≤ n) rest m all.0, ordered_mark rest m all.1)

-- ---- inlets

pub holding_more : (inlet : List Sending) (most more : ℕ) → most ≤ more → Holding most inlet → Holding more inlet
holding_more [] most more l all = tt
holding_more (Begun ∷ rest) most more l all = holding_more rest most more l all
holding_more (Passed e ∷ rest) most more l all =
    (let here = all.0 in omega (arith, l, here), holding_more rest most more l all.1)

pub holding_begun : (inlet : List Sending) (most : ℕ) → Holding most inlet → Holding most (inlet ++ Begun ∷ [])
holding_begun [] most all = tt
holding_begun (Begun ∷ rest) most all = holding_begun rest most all
holding_begun (Passed e ∷ rest) most all = (all.0, holding_begun rest most all.1)

pub holding_passed : (inlet : List Sending) (most : ℕ) → Holding most inlet → Holding most (inlet ++ Passed most ∷ [])
holding_passed [] most all = (omega arith, tt)
holding_passed (Begun ∷ rest) most all = holding_passed rest most all
holding_passed (Passed e ∷ rest) most all = (all.0, holding_passed rest most all.1)

-- all markers are of earlier epochs, so none is of this one
pub behind_none : (inlet : List Sending) (most epoch : ℕ) → most < epoch → Holding most inlet → Behind epoch inlet
behind_none [] most epoch l all = tt
behind_none (Begun ∷ rest) most epoch l all = behind_none rest most epoch l all
behind_none (Passed e ∷ rest) most epoch l all = (
  λ same. let here = all.0 in absurd (omega (arith, l, here, same)),
  behind_none rest most epoch l all.1,
)

-- an update that is begun under no seal of this epoch
pub behind_begun : (inlet : List Sending) (most epoch : ℕ) → most < epoch → Holding most inlet
    → Behind epoch (inlet ++ Begun ∷ [])
behind_begun [] most epoch l all = tt
behind_begun (Begun ∷ rest) most epoch l all = behind_begun rest most epoch l all
behind_begun (Passed e ∷ rest) most epoch l all = (
  λ same. let here = all.0 in absurd (omega (arith, l, here, same)),
  behind_begun rest most epoch l all.1,
)

pub begun_passed : (inlet : List Sending) (epoch : ℕ) → has_begun (inlet ++ Passed epoch ∷ []) ≡ has_begun inlet
begun_passed [] epoch = refl
begun_passed (Begun ∷ rest) epoch = refl
begun_passed (Passed e ∷ rest) epoch = begun_passed rest epoch

pub behind_passed : (inlet : List Sending) (epoch other : ℕ) → Behind epoch inlet
    → Behind epoch (inlet ++ Passed other ∷ [])
behind_passed [] epoch other all = (λ same. refl, tt)
behind_passed (Begun ∷ rest) epoch other all = behind_passed rest epoch other all
behind_passed (Passed e ∷ rest) epoch other all =
    (λ same. begun_passed rest other ∙ all.0 same, behind_passed rest epoch other all.1)

-- ---- what is set

pub passed_after : (passed : List Bool) (thread k : ℕ) → has_passed (slice_set passed thread true) k ≡ true
    → (k ≡ thread) ⊎ (has_passed passed k ≡ true)
passed_after [] thread k is = inr is
passed_after (x ∷ xs) zero zero is = inl refl
passed_after (x ∷ xs) zero (suc k) is = inr is
passed_after (x ∷ xs) (suc thread) zero is = inr is
passed_after (x ∷ xs) (suc thread) (suc k) is = elim (passed_after xs thread k is) [
  | inl same ↦ inl (ap suc same)
  | inr before ↦ inr before
]

-- what has passed stays so
pub passed_stays : (passed : List Bool) (thread k : ℕ) → has_passed passed k ≡ true
    → has_passed (slice_set passed thread true) k ≡ true
passed_stays [] thread k is = is
passed_stays (x ∷ xs) zero zero is = refl
passed_stays (x ∷ xs) zero (suc k) is = is
passed_stays (x ∷ xs) (suc thread) zero is = is
passed_stays (x ∷ xs) (suc thread) (suc k) is = passed_stays xs thread k is

none_passed_in : (n k : ℕ) → has_passed (replicate n false) k ≡ false
none_passed_in zero k = refl
none_passed_in (suc n) zero = refl
none_passed_in (suc n) (suc k) = none_passed_in n k

pub none_passed_at : (k : ℕ) → has_passed (replicate 16 false) k ≡ true → ⊥
none_passed_at k is = false≢true (sym (none_passed_in 16 k) ∙ is)

pub mark_after : (marks : List (Option Numbers)) (from i : ℕ) (new found : Numbers)
    → mark_at (slice_set marks from (Some new)) i ≡ Some found
    → (mark_at marks i ≡ Some found) ⊎ ((i ≡ from) × (new ≡ found))
mark_after [] from i new found is = inl is
mark_after (x ∷ xs) zero zero new found is = inr (refl, same_some is)
  where
    same_some : {x y : Numbers} → Some x ≡ Some y → x ≡ y
    same_some e = cc
mark_after (x ∷ xs) zero (suc i) new found is = inl is
mark_after (x ∷ xs) (suc from) zero new found is = inl is
mark_after (x ∷ xs) (suc from) (suc i) new found is = elim (mark_after xs from i new found is) [
  | inl before ↦ inl before
  | inr this ↦ inr (ap suc this.0, this.1)
]

none_is : {A : Type 0} {x : A} → None ≡ Some x → ⊥
none_is e = cc

no_mark_in : (n i : ℕ) (found : Numbers) → mark_at (replicate n None) i ≡ Some found → ⊥
no_mark_in zero i found is = none_is is
no_mark_in (suc n) zero found is = none_is is
no_mark_in (suc n) (suc i) found is = no_mark_in n i found is

pub no_mark_at : (i : ℕ) (found : Numbers) → mark_at (replicate 16 None) i ≡ Some found → ⊥
no_mark_at = no_mark_in 16

-- ---- what holds of each

pub below_none : (holds : ℕ → Bool) → all_below holds 0 ≡ true
unfolding all_below
below_none holds = refl

pub below_more : (holds : ℕ → Bool) (n : ℕ) → all_below holds (n + 1) ≡ (all_below holds n && holds n)
unfolding all_below
below_more holds n = rw add-one refl

pub below_true : (holds : ℕ → Bool) (n : ℕ) (all : Bool) → all ≡ all_below holds n → all ≡ true
    → all_below holds (n + 1) ≡ holds n
below_true holds n all is so = below_more holds n ∙ ap (λ x. x && holds n) (sym is ∙ so)

pub below_false : (holds : ℕ → Bool) (n : ℕ) (all : Bool) → all ≡ all_below holds n → all ≡ false
    → all_below holds (n + 1) ≡ false
below_false holds n all is so = below_more holds n ∙ ap (λ x. x && holds n) (sym is ∙ so)

pub below_at : (holds : ℕ → Bool) (n i : ℕ) → all_below holds n ≡ true → i < n → holds i ≡ true
unfolding all_below
below_at holds zero i all less = absurd (omega (arith, less))
below_at holds (suc n) i all less =
    let parts = and_parts (all_below holds n) (holds n) all in
    elim (cases_order i n) [
      | inl same ↦ subst (λ k. holds k ≡ true) (sym same) parts.1
      | inr either ↦ elim either [
        | inl lower ↦ below_at holds n i parts.0 lower
        | inr above ↦ absurd (omega (arith, less, above))
      ]
    ]

abbrev pub numbers_of : ℕ → ℕ → ℕ → Numbers
numbers_of view last committed = record { view = view; last = last; committed = committed }

pub alike : (one other : Numbers) → one.view ≡ other.view → one.last ≡ other.last → one.committed ≡ other.committed
    → one ≡ other
alike one other view last committed =
    ap (λ n. numbers_of n one.last one.committed) view
    ∙ ap (λ n. numbers_of other.view n one.committed) last
    ∙ ap (λ n. numbers_of other.view other.last n) committed

pub same_numbers : (one other : Numbers) → is_same one other ≡ true → one ≡ other
same_numbers one other is =
    let first = and_parts _ _ is in
    let second = and_parts _ _ first.1 in
    let view : one.view ≡ other.view = eqb-true one.view other.view first.0 in
    let last : one.last ≡ other.last = eqb-true one.last other.last second.0 in
    let committed : one.committed ≡ other.committed = eqb-true one.committed other.committed second.1 in
    alike one other view last committed

pub is_same_refl : (n : Numbers) → is_same n n ≡ true
is_same_refl n = and_from _ _ (eq-eqb n.view n.view refl)
    (and_from _ _ (eq-eqb n.last n.last refl) (eq-eqb n.committed n.committed refl))

pub named : (mark : Option Numbers) (numbers : Numbers) → names mark numbers ≡ true → mark ≡ Some numbers
named None numbers is = absurd (false≢true is)
named (Some mark) numbers is = ap Some (same_numbers mark numbers is)
