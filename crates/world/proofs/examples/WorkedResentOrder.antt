-- A call that was sent again is taken once: an order that has it twice is none, though a single table would answer so.
use Rattle.std.proofs.Common.{◌≡◌, ℕ, zero, suc, List, [], ◌∷◌, Option, Some, refl, sym, ap, ◌∙◌, arith, subst}
use Rattle.std.specs.Prelude.{slice_get, codes}
use Rattle.std.proofs.lemmas.Fmt.{decimal_digit}
use Rattle.std.specs.FinMap.{insert}
use Rattle.std.proofs.lemmas.Option.{same_Some}
use Rattle.table.specs.Plain.{item_at, changed}
use Rattle.table.specs.Decisions.{decision}
use Rattle.table.specs.Histories.{IsLegal, IsLegalFrom}
use Rattle.table.specs.Items.{Item}
use Rattle.table.specs.declared.operations.Call.{Call}
use Rattle.table.specs.declared.operations.Op.TheVariants.{Read, Set, Incr}
use Rattle.table.specs.declared.operations.Reply.TheVariants.{Number, Value}
use Rattle.table.specs.declared.operations.Target.TheVariants.{One}
use Rattle.world.specs.Orders.{OrderedCall, IsLinearization}
use Rattle.world.specs.WorkedSchedules.{said, resent_homes, resent_events, resent_twice}
use Rattle.world.proofs.examples.WorkedOrders.{under, call_there, read_twice}
use Rattle.world.proofs.examples.WorkedResent.{key, set, incr, get, eight, eight_with, one_put, seven, found_seven}
use Rattle.world.proofs.examples.WorkedResent.{found_eight, called}

is_incr : (c p : ℕ)
    → under ((set ∷ incr ∷ get ∷ []) ∷ []) (record { connection = c; ordinal = p }) ≡ Some incr
    → (c ≡ 0) × (p ≡ 1)
is_incr zero zero h =
    let e : Set 0 (codes "7") ≡ Incr 1 = ap (λ (call : Call). call.op) (same_Some set incr h) in absurd cc
is_incr zero (suc zero) h = (refl, refl)
is_incr zero (suc (suc zero)) h =
    let e : Read ≡ Incr 1 = ap (λ (call : Call). call.op) (same_Some get incr h) in absurd cc
is_incr zero (suc (suc (suc p))) h = absurd cc
is_incr (suc c) p h = absurd cc

-- whatever order the calls stand in, the incr stands at one place
pub incr_once : (h : List OrderedCall)
    → IsLinearization 3 resent_homes resent_events h
    → (i j : ℕ) (e f : OrderedCall)
    → slice_get h i ≡ Some e
    → slice_get h j ≡ Some f
    → e.call ≡ incr
    → f.call ≡ incr
    → i ≡ j
incr_once h order i j e f here there first second =
    let one = is_incr e.id.connection e.id.ordinal
    (call_there 3 resent_homes resent_events h order _ called i e here ∙ ap Some first) in
    let two = is_incr f.id.connection f.id.ordinal
    (call_there 3 resent_homes resent_events h order _ called j f there ∙ ap Some second) in
    read_twice 3 resent_homes resent_events h order i j e f here there
    (λ k. record { connection = (one.0 ∙ sym two.0) k; ordinal = (one.1 ∙ sym two.1) k })

-- what follows the first incr, if that found this
abbrev behind_incr : Option Item → Type 0
behind_incr found = IsLegalFrom (record { items = changed one_put (One key) (decision found (Incr 1) 2).1; count = 2 })
    ((get, Value (Some (eight_with (codes "8")))) ∷ (incr, Number 9) ∷ [])

found_8 : item_at (insert one_put key eight) key ≡ Some (eight_with (codes "8"))
found_8 = found_eight ∙ ap (λ digits. Some (eight_with digits)) (decimal_digit 8 (omega arith))

second_legal : behind_incr (Some seven)
second_legal = (ap Value (sym found_8), (ap (λ found. (decision found (Incr 1) 3).0) (sym found_8), tt))

-- a single table may answer so
pub twice_legal : IsLegal (said resent_twice)
twice_legal = (
  refl,
  (
    ap (λ found. (decision found (Incr 1) 2).0) (sym found_seven),
    subst behind_incr (sym found_seven) second_legal,
  ),
)

-- but no order of the schedule's calls is this one
pub twice_is_no_order : IsLinearization 3 resent_homes resent_events resent_twice → ⊥
twice_is_no_order order =
    let ordinal : 1 ≡ 3 = incr_once resent_twice order 1 3 _ _ refl refl refl refl in
    absurd (omega (arith, ordinal))
