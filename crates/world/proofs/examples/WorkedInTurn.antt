-- Two sets of one server that are in flight together, exchanged: time allows it, and the server's turns refuse it.
use Rattle.std.proofs.Common.{◌≡◌, ℕ, zero, suc, ◌<◌, ◌≤◌, List, [], ◌∷◌, take, Some, None, refl, sym, ap, ◌∙◌}
use Rattle.std.proofs.Common.{arith, inl, inr}
use Rattle.std.specs.Prelude.{slice_get}
use Rattle.std.proofs.lemmas.Bool.{cases_lt}
use Rattle.std.proofs.lemmas.Option.{none-some}
use Rattle.table.specs.declared.operations.Call.{Call}
use Rattle.table.specs.declared.operations.Reply.{Reply}
use Rattle.world.specs.declared.events.Event.{Event}
use Rattle.world.specs.Worlds.{World, run_of}
use Rattle.world.specs.Calls.{CallId, begun_call, reply_to}
use Rattle.world.specs.Orders.{OrderedCall, StandsAt, Precedes, GivenBefore, IsLinearization}
use Rattle.world.specs.WorkedSchedules.{name, flight_homes, flight_events, sets_exchanged}
use Rattle.world.proofs.lists.Standing.{some_of}
use Rattle.world.proofs.moments.AllLaws.{all_moments}
use Rattle.world.proofs.examples.WorkedOrders.{under, calls_under, replies_under}
use Rattle.world.proofs.examples.WorkedInTime.{first, second}
use Rattle.world.proofs.examples.WorkedInTimeOrder.{both_calls, both_replies, front, exchanged_called, exchanged_replied}
use Rattle.world.proofs.examples.WorkedInFlight.{called, replied, called_soon, replied_late, first_given, second_not}

-- ---- a call stays begun, and its reply stays

begun_still : (count : ℕ) (homes : List ℕ) (events : List Event) (few : count ≤ 16) (j k : ℕ)
    → j ≤ k
    → (x : CallId) (call : Call)
    → begun_call (run_of count homes (take j events)) x ≡ Some call
    → begun_call (run_of count homes (take k events)) x ≡ Some call
begun_still count homes events few j k l x call h =
    let m = all_moments count homes events few in
    ap (λ (w : World). begun_call w x) (sym (m.world k))
    ∙ (m.goes j k l None).later.calls x call (ap (λ (w : World). begun_call w x) (m.world j) ∙ h)

replied_still : (count : ℕ) (homes : List ℕ) (events : List Event) (few : count ≤ 16) (j k : ℕ)
    → j ≤ k
    → (x : CallId) (reply : Reply)
    → reply_to (run_of count homes (take j events)) x ≡ Some reply
    → reply_to (run_of count homes (take k events)) x ≡ Some reply
replied_still count homes events few j k l x reply h =
    let m = all_moments count homes events few in
    ap (λ (w : World). reply_to w x) (sym (m.world k))
    ∙ (m.goes j k l None).later.replies x reply (ap (λ (w : World). reply_to w x) (m.world j) ∙ h)

-- ---- what a linearization asks for, but for turns

-- each call of the order was begun
pub flight_begun : (i : ℕ) (e : OrderedCall)
    → slice_get sets_exchanged i ≡ Some e
    → begun_call (run_of 2 flight_homes flight_events) e.id ≡ Some e.call
flight_begun i e here =
    calls_under 2 flight_homes flight_events both_calls called e.id ∙ exchanged_called i e here

-- each answered call stands in it, with its reply
pub flight_answered : (x : CallId) (reply : Reply)
    → reply_to (run_of 2 flight_homes flight_events) x ≡ Some reply
    → (i : ℕ) × (at : StandsAt sets_exchanged i x) × (at.entry.reply ≡ reply)
flight_answered x reply got =
    exchanged_replied x reply (sym (replies_under 2 flight_homes flight_events both_replies replied x) ∙ got)

few_servers : 2 ≤ 16
few_servers = omega arith

none_under : (c p : ℕ) (reply : Reply) → under ([] ∷ [] ∷ []) (name c p) ≡ Some reply → ⊥
none_under zero p reply h = absurd cc
none_under (suc zero) p reply h = absurd cc
none_under (suc (suc c)) p reply h = absurd cc

-- both begin before one is answered: neither precedes the other
never_precedes : (x y : CallId) (j : ℕ) → Precedes 2 flight_homes flight_events x y → StandsAt sets_exchanged j y → ⊥
never_precedes x y j before at_j = elim (cases_lt before.k 4) [
  | inl early ↦
      let reply = some_of (reply_to (run_of 2 flight_homes (take before.k flight_events)) x) before.answered in
      let late = replied_still 2 flight_homes flight_events few_servers before.k 4 (omega (arith, early)) x reply.0
      reply.1 in
      none_under x.connection x.ordinal reply.0
      (sym (replies_under 2 flight_homes (take 4 flight_events) ([] ∷ [] ∷ []) replied_late x) ∙ late)
  | inr late ↦
      let e = at_j.entry in
      let soon : begun_call (run_of 2 flight_homes (take 4 flight_events)) y ≡ Some e.call =
      calls_under 2 flight_homes (take 4 flight_events) both_calls called_soon y
      ∙ ap (λ z. under both_calls z) (sym at_j.same) ∙ exchanged_called j e at_j.here in
      none-some e.call
      (sym before.not_begun
      ∙ begun_still 2 flight_homes flight_events few_servers 4 before.k late y e.call soon)
]

-- so real time allows the exchange
pub flight_in_time : (x y : CallId) (j : ℕ)
    → Precedes 2 flight_homes flight_events x y
    → StandsAt sets_exchanged j y
    → (i : ℕ) × (i < j) × StandsAt sets_exchanged i x
flight_in_time x y j before at_j = absurd (never_precedes x y j before at_j)

-- ---- turns

first_before_second : GivenBefore 2 flight_homes flight_events (name 0 0) (name 1 0)
first_before_second = record {
  k = 5;
  given = first_given;
  not_given = second_not;
  one_server = refl;
  update = (first, calls_under 2 flight_homes flight_events both_calls called (name 0 0), refl);
  later_update = (second, calls_under 2 flight_homes flight_events both_calls called (name 1 0), refl);
}

-- the first set was given to the server before the second
pub flight_exchanged_is_no_order : IsLinearization 2 flight_homes flight_events sets_exchanged → ⊥
flight_exchanged_is_no_order order =
    let before = order.in_turn (name 0 0) (name 1 0) 0 first_before_second
    (record { entry = front; here = refl; same = refl }) in
    omega (arith, before.1)
