-- Two sets on two keys, exchanged: real-time order refuses it, and nothing else does.
use Rattle.std.proofs.Common.{◌≡◌, ℕ, zero, suc, ◌+◌, ◌<◌, List, [], ◌∷◌, take, Some, refl, sym, ap, ◌∙◌, arith, subst}
use Rattle.std.proofs.Common.{◌⊎◌, inl, inr}
use Rattle.std.specs.Prelude.{slice_get}
use Rattle.std.proofs.lemmas.Bool.{both_ways}
use Rattle.std.proofs.lemmas.Option.{same_Some}
use Rattle.table.specs.Histories.{IsLegal}
use Rattle.table.specs.declared.operations.Call.{Call}
use Rattle.table.specs.declared.operations.Reply.{Reply}
use Rattle.table.specs.declared.operations.Reply.TheVariants.{Stored}
use Rattle.world.specs.Worlds.{run_of}
use Rattle.world.specs.Calls.{CallId, begun_call, reply_to, is_given}
use Rattle.world.specs.Orders.{OrderedCall, StandsAt, IsLinearization, GivenBefore}
use Rattle.world.specs.WorkedSchedules.{name, entry, said, sets_homes, sets_events, sets_exchanged}
use Rattle.world.proofs.examples.WorkedOrders.{under, calls_under, replies_under}
use Rattle.world.proofs.examples.WorkedInTime.{first, second, called, replied, first_before_second}

-- a single table may answer so
pub exchanged_legal : IsLegal (said sets_exchanged)
exchanged_legal = (refl, (refl, tt))

-- the second set, which the exchanged order has first
abbrev pub front : OrderedCall
front = entry (name 1 0) second Stored

abbrev back : OrderedCall
back = entry (name 0 0) first Stored

-- the calls of the two connections
abbrev pub both_calls : List (List Call)
both_calls = (first ∷ []) ∷ (second ∷ []) ∷ []

-- each call of the order is one of these
pub exchanged_called : (i : ℕ) (e : OrderedCall) → slice_get sets_exchanged i ≡ Some e
    → under both_calls e.id ≡ Some e.call
exchanged_called zero e h =
    subst (λ (f : OrderedCall). under both_calls f.id ≡ Some f.call) (same_Some front e h) refl
exchanged_called (suc zero) e h =
    subst (λ (f : OrderedCall). under both_calls f.id ≡ Some f.call) (same_Some back e h) refl
exchanged_called (suc (suc i)) e h = absurd cc

-- each call of the order was begun
pub exchanged_begun : (i : ℕ) (e : OrderedCall)
    → slice_get sets_exchanged i ≡ Some e
    → begun_call (run_of 2 sets_homes sets_events) e.id ≡ Some e.call
exchanged_begun i e here =
    calls_under 2 sets_homes sets_events both_calls called e.id ∙ exchanged_called i e here

connection_of : (i : ℕ) (e : OrderedCall) → slice_get sets_exchanged i ≡ Some e → i + e.id.connection ≡ 1
connection_of zero e h =
    let first_is : 1 ≡ e.id.connection = ap (λ (f : OrderedCall). f.id.connection) (same_Some front e h) in
    omega (arith, first_is)
connection_of (suc zero) e h =
    let second_is : 0 ≡ e.id.connection = ap (λ (f : OrderedCall). f.id.connection) (same_Some back e h) in
    omega (arith, second_is)
connection_of (suc (suc i)) e h = absurd cc

-- none stands in it twice
pub exchanged_once : (i j : ℕ) (x : CallId) → StandsAt sets_exchanged i x → StandsAt sets_exchanged j x → i ≡ j
exchanged_once i j x one two =
    let same : one.entry.id.connection ≡ two.entry.id.connection =
    ap (λ (y : CallId). y.connection) (one.same ∙ sym two.same) in
    omega (arith, connection_of i one.entry one.here, connection_of j two.entry two.here, same)

-- their replies
abbrev pub both_replies : List (List Reply)
both_replies = (Stored ∷ []) ∷ (Stored ∷ []) ∷ []

-- each of these replies stands in it
pub exchanged_replied : (x : CallId) (reply : Reply)
    → under both_replies x ≡ Some reply
    → (i : ℕ) × (at : StandsAt sets_exchanged i x) × (at.entry.reply ≡ reply)
exchanged_replied x reply got = there x.connection x.ordinal got
  where
    there : (c p : ℕ)
        → under both_replies (name c p) ≡ Some reply
        → (i : ℕ) × (at : StandsAt sets_exchanged i (name c p)) × (at.entry.reply ≡ reply)
    there zero zero h = (1, record { entry = back; here = refl; same = refl }, same_Some Stored reply h)
    there zero (suc p) h = absurd cc
    there (suc zero) zero h = (0, record { entry = front; here = refl; same = refl }, same_Some Stored reply h)
    there (suc zero) (suc p) h = absurd cc
    there (suc (suc c)) p h = absurd cc

-- each answered call stands in it, with its reply
pub exchanged_answered : (x : CallId) (reply : Reply)
    → reply_to (run_of 2 sets_homes sets_events) x ≡ Some reply
    → (i : ℕ) × (at : StandsAt sets_exchanged i x) × (at.entry.reply ≡ reply)
exchanged_answered x reply got =
    exchanged_replied x reply (sym (replies_under 2 sets_homes sets_events both_replies replied x) ∙ got)

-- a begun call is one of the two
abbrev IsFirstCall : CallId → Type 0
IsFirstCall x = ((x.connection ≡ 0) × (x.ordinal ≡ 0)) ⊎ ((x.connection ≡ 1) × (x.ordinal ≡ 0))

named : (c p : ℕ) (call : Call) → under both_calls (name c p) ≡ Some call → IsFirstCall (name c p)
named zero zero call h = inl (refl, refl)
named zero (suc p) call h = absurd cc
named (suc zero) zero call h = inr (refl, refl)
named (suc zero) (suc p) call h = absurd cc
named (suc (suc c)) p call h = absurd cc

-- they are at two servers, so neither has to stand first in turn
at_two : (x y : CallId)
    → IsFirstCall x
    → IsFirstCall y
    → slice_get sets_homes x.connection ≡ slice_get sets_homes y.connection
    → x ≡ y
at_two x y (inl a) (inl b) same =
    λ i. record { connection = (a.0 ∙ sym b.0) i; ordinal = (a.1 ∙ sym b.1) i }
at_two x y (inr a) (inr b) same =
    λ i. record { connection = (a.0 ∙ sym b.0) i; ordinal = (a.1 ∙ sym b.1) i }
at_two x y (inl a) (inr b) same =
    let e : 1 ≡ 0 = same_Some 1 0 (ap (slice_get sets_homes) (sym a.0) ∙ same ∙ ap (slice_get sets_homes) b.0) in
    absurd (omega (arith, e))
at_two x y (inr a) (inl b) same =
    let e : 0 ≡ 1 = same_Some 0 1 (ap (slice_get sets_homes) (sym a.0) ∙ same ∙ ap (slice_get sets_homes) b.0) in
    absurd (omega (arith, e))

-- so the clause on turns holds of it
pub exchanged_in_turn : (x y : CallId) (j : ℕ)
    → GivenBefore 2 sets_homes sets_events x y
    → StandsAt sets_exchanged j y
    → (i : ℕ) × (i < j) × StandsAt sets_exchanged i x
exchanged_in_turn x y j before at_j =
    let begun = calls_under 2 sets_homes sets_events both_calls called in
    let u = before.update in
    let v = before.later_update in
    let same : x ≡ y = at_two x y (named x.connection x.ordinal u.0 (sym (begun x) ∙ u.1))
    (named y.connection y.ordinal v.0 (sym (begun y) ∙ v.1)) before.one_server in
    let w = run_of 2 sets_homes (take before.k sets_events) in
    absurd (both_ways (is_given w y) before.not_given (ap (λ z. is_given w z) (sym same) ∙ before.given))

-- but the first set was answered before the second began
pub exchanged_is_no_order : IsLinearization 2 sets_homes sets_events sets_exchanged → ⊥
exchanged_is_no_order order =
    let before = order.in_time (name 0 0) (name 1 0) 0 first_before_second
    (record { entry = front; here = refl; same = refl }) in
    omega (arith, before.1)
