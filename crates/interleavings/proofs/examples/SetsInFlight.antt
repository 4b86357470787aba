-- Two sets of two seats of one server, exchanged: a linearization of the run, and not in turn.
use Rattle.std.proofs.Common.{◌≡◌, ℕ, zero, suc, [], ◌∷◌, take, drop, None, Some, refl, arith}
use Rattle.std.proofs.Common.{ap, sym, ◌∙◌, subst, lit<, lit≤}
use Rattle.std.specs.Prelude.{slice_get, IsSome}
use Rattle.std.proofs.lemmas.Bool.{ne_eqb}
use Rattle.std.proofs.lemmas.Option.{none-some}
use Rattle.node.specs.Numbering.{left_open, replies, risen, appended, passed_on, take_update, entered}
use Rattle.node.specs.Servers.{most}
use Rattle.node.specs.Steps.{trimmed}
use Rattle.node.specs.Views.{has, union, single, is_below, adds, next_from, predecessor}
use Rattle.world.specs.Calls.{CallId}
use Rattle.world.specs.Orders.{OrderedCall, StandsAt}
use Rattle.world.specs.WorkedSchedules.{name, sets_exchanged}
use Rattle.world.proofs.examples.WorkedInTimeOrder.{front, both_calls, both_replies, exchanged_legal, exchanged_called}
use Rattle.world.proofs.examples.WorkedInTimeOrder.{exchanged_once, exchanged_replied}
use Rattle.world.proofs.examples.WorkedOrders.{under}
use Rattle.world.proofs.lists.Standing.{some_of}
use Rattle.interleavings.specs.Asked.{IsAsked, AreAsked}
use Rattle.interleavings.specs.Chains.{Seat, Chain, with_at, opening_chain}
use Rattle.interleavings.specs.Moves.{moved}
use Rattle.interleavings.specs.Orders.{begun_call, reply_to, PublishedBefore, IsLinearization, IsInTurn}
use Rattle.interleavings.specs.WorkedRuns.{set, other_set, flight_homes, flight_moves}
use Rattle.interleavings.proofs.examples.AskedCalls.{set_asked}
use Rattle.interleavings.proofs.lists.ChangedFunctions.{kept_at}
use Rattle.interleavings.proofs.relation.Published.{begun_still}

-- clients can ask both sets
pub flight_asked : AreAsked flight_moves
unfolding flight_moves
flight_asked = (other_asked, (set_asked, (tt, (tt, (tt, (tt, (tt, (tt, (tt, (tt, tt))))))))))
  where
    other_asked : IsAsked other_set
    other_asked = record { fits = lit≤ tt; suits = refl; target = refl; numbers = lit< tt }

-- ---- the chain after the run

abbrev last : Chain
last = moved 1 flight_homes flight_moves

calls_are : (c p : ℕ) → begun_call last (name c p) ≡ under both_calls (name c p)
unfolding flight_moves with_at has union single is_below adds next_from predecessor most appended entered trimmed
    left_open replies risen passed_on take_update
calls_are zero p = refl
calls_are (suc zero) p = refl
calls_are (suc (suc c)) p =
    let no : (suc (suc c) ≡ 1) → ⊥ = λ e. omega (arith, e) in
    let none : (suc (suc c) ≡ 0) → ⊥ = λ e. omega (arith, e) in
    rw (ne_eqb (suc (suc c)) 1 no, ne_eqb (suc (suc c)) 0 none) refl

replies_are : (c p : ℕ) → reply_to last (name c p) ≡ under both_replies (name c p)
unfolding flight_moves with_at has union single is_below adds next_from predecessor most appended entered trimmed
    left_open replies risen passed_on take_update
replies_are zero p = refl
replies_are (suc zero) p = refl
replies_are (suc (suc c)) p =
    let no : (suc (suc c) ≡ 1) → ⊥ = λ e. omega (arith, e) in
    let none : (suc (suc c) ≡ 0) → ⊥ = λ e. omega (arith, e) in
    rw (ne_eqb (suc (suc c)) 1 no, ne_eqb (suc (suc c)) 0 none) refl

-- ---- time allows the exchange

-- after two moves both are begun
soon : (c p : ℕ) → begun_call (moved 1 flight_homes (take 2 flight_moves)) (name c p) ≡ under both_calls (name c p)
unfolding flight_moves with_at
soon zero p = refl
soon (suc zero) p = refl
soon (suc (suc c)) p =
    let no : (suc (suc c) ≡ 1) → ⊥ = λ e. omega (arith, e) in
    let none : (suc (suc c) ≡ 0) → ⊥ = λ e. omega (arith, e) in
    rw (ne_eqb (suc (suc c)) 1 no, ne_eqb (suc (suc c)) 0 none) refl

-- and stay so
begun_late : (k : ℕ) (x : CallId) (e : OrderedCall)
    → under both_calls x ≡ Some e.call
    → begun_call (moved 1 flight_homes (take (suc (suc k)) flight_moves)) x ≡ Some e.call
unfolding flight_moves
begun_late k x e there =
    begun_still (take k (drop 2 flight_moves)) (moved 1 flight_homes (take 2 flight_moves)) x e.call
    (soon x.connection x.ordinal ∙ there)

-- neither is answered before
none_at_first : (c : ℕ) → ((moved 1 flight_homes (take 1 flight_moves)).seats c).got ≡ []
unfolding flight_moves
none_at_first c =
    kept_at (λ (s : Seat). s.got) (opening_chain 1 flight_homes).seats 1
    (record ((opening_chain 1 flight_homes).seats 1) { calls = other_set ∷ [] }) refl c

never_precedes : (k : ℕ) (x y : CallId) (j : ℕ)
    → IsSome (reply_to (moved 1 flight_homes (take k flight_moves)) x)
    → begun_call (moved 1 flight_homes (take k flight_moves)) y ≡ None
    → StandsAt sets_exchanged j y
    → ⊥
never_precedes zero x y j answered not_begun s = cc
never_precedes (suc zero) x y j answered not_begun s =
    let reply = some_of (reply_to (moved 1 flight_homes (take 1 flight_moves)) x) answered in
    let none : None ≡ Some reply.0 =
    ap (λ rs. slice_get rs x.ordinal) (sym (none_at_first x.connection)) ∙ reply.1 in
    none-some reply.0 none
never_precedes (suc (suc k)) x y j answered not_begun s =
    let there = subst (λ z. under both_calls z ≡ Some s.entry.call) s.same (exchanged_called j s.entry s.here) in
    none-some s.entry.call (sym not_begun ∙ begun_late k y s.entry there)

-- the exchanged order is a linearization of the run
pub flight_linearization : IsLinearization 1 flight_homes flight_moves sets_exchanged
flight_linearization = record {
  legal = exchanged_legal;
  begun = λ i e here. calls_are e.id.connection e.id.ordinal ∙ exchanged_called i e here;
  once = exchanged_once;
  answered = λ x reply got. exchanged_replied x reply (sym (replies_are x.connection x.ordinal) ∙ got);
  in_time = λ x y j p s. absurd (never_precedes p.k x y j p.answered p.not_begun s);
}

-- ---- turns

first_published : PublishedBefore 1 flight_homes flight_moves (name 0 0) (name 1 0)
unfolding flight_moves with_at has union single is_below adds next_from predecessor most appended entered trimmed
    left_open replies risen passed_on take_update
first_published = record {
  k = 4;
  published = refl;
  not_published = refl;
  one_server = refl;
  update = (set, refl, refl);
  later_update = (other_set, refl, refl);
}

-- but the first seat's set was published first
pub flight_not_in_turn : IsInTurn 1 flight_homes flight_moves sets_exchanged → ⊥
flight_not_in_turn h =
    let before = h.in_turn (name 0 0) (name 1 0) 0 first_published
    (record { entry = front; here = refl; same = refl }) in
    omega (arith, before.1)
