-- A call that was sent again: its schedule's calls stand in one order only.
use Rattle.std.proofs.Common.{◌≡◌, ℕ, zero, suc, ◌<◌, List, [], ◌∷◌, ◌++◌, length, take, map, Some, None, refl, sym, ap}
use Rattle.std.proofs.Common.{◌∙◌, arith, subst, ◌⊎◌, inl, inr}
use Rattle.std.specs.Prelude.{slice_get}
use Rattle.std.proofs.lemmas.Option.{same_Some, slice_get_within}
use Rattle.table.specs.declared.operations.Call.{Call}
use Rattle.table.specs.declared.operations.Reply.{Reply}
use Rattle.table.specs.declared.operations.Reply.TheVariants.{Stored, Number, Value}
use Rattle.proto.specs.Words.{line_limit}
use Rattle.node.specs.Views.{has, union, single, is_below, adds, next_from, predecessor}
use Rattle.node.specs.Servers.{most}
use Rattle.node.specs.Numbering.{left_open, replies, risen, appended, passed_on, take_update, entered}
use Rattle.node.specs.Joining.{widened, taken_all, sent_again, forwarded, promoted_to_head, promoted_to_tail, caught_up}
use Rattle.node.specs.Joining.{acked_to_predecessor, asks_renewed}
use Rattle.node.specs.Steps.{trimmed}
use Rattle.world.specs.declared.events.Event.TheVariants.{Deliver, Hand}
use Rattle.world.specs.Worlds.{World, server, link, with_server, with_link, with_connection, put_all, run_from, run_of}
use Rattle.world.specs.Calls.{CallId, begun_call, IsAnswered}
use Rattle.world.specs.Orders.{OrderedCall, StandsAt, Precedes, IsLinearization}
use Rattle.std.proofs.lemmas.Fmt.{decimal_digit}
use Rattle.world.specs.WorkedSchedules as worked
use Rattle.world.specs.WorkedSchedules.{resent_homes, resent_before, resent_behind, resent_events, resent_order}
use Rattle.world.proofs.examples.WorkedOrders.{under, said, call_there, reply_there, stands}
use Rattle.world.proofs.order.OneOrder.{one_order}
use Rattle.world.proofs.examples.WorkedResent.{set, incr, get, eight, eight_with, seven, entry_on, taken_twice}
use Rattle.world.proofs.examples.WorkedResent.{ends_with, called, replied}

-- a call of the client, by its ordinal
abbrev pub the : ℕ → CallId
the ordinal = record { connection = 0; ordinal = ordinal }

-- the set is answered before the incr begins
pub set_before_incr : Precedes 3 resent_homes resent_events (the 0) (the 1)
unfolding resent_before resent_behind line_limit has union single is_below adds next_from predecessor most appended
    entered widened taken_all sent_again forwarded trimmed left_open replies risen passed_on take_update
    promoted_to_head promoted_to_tail caught_up acked_to_predecessor asks_renewed server link with_server with_link
    with_connection put_all
set_before_incr = record { k = 9; answered = refl; not_begun = refl }

-- the events up to the incr's answer
first_events : take 18 resent_events ≡ resent_before ++ Deliver 2 1 ∷ Deliver 1 2 ∷ Hand 0 ∷ []
unfolding resent_before resent_behind
first_events = refl

abbrev incr_done : World
incr_done = run_from (taken_twice (entry_on (Some seven))) (Deliver 1 2 ∷ Hand 0 ∷ [])

until : run_of 3 resent_homes (take 18 resent_events) ≡ incr_done
until = ap (run_of 3 resent_homes) first_events ∙ ends_with (Deliver 1 2 ∷ Hand 0 ∷ [])

incr_answered : IsAnswered incr_done (the 1)
unfolding line_limit has union single is_below adds next_from predecessor most appended entered widened taken_all
    sent_again forwarded trimmed left_open replies risen passed_on take_update promoted_to_head promoted_to_tail
    caught_up acked_to_predecessor asks_renewed server link with_server with_link with_connection put_all
incr_answered = refl

get_not_begun : begun_call incr_done (the 2) ≡ None
unfolding line_limit has union single is_below adds next_from predecessor most appended entered widened taken_all
    sent_again forwarded trimmed left_open replies risen passed_on take_update promoted_to_head promoted_to_tail
    caught_up acked_to_predecessor asks_renewed server link with_server with_link with_connection put_all
get_not_begun = refl

-- the incr is answered before the get begins
pub incr_before_get : Precedes 3 resent_homes resent_events (the 1) (the 2)
incr_before_get = record {
  k = 18;
  answered = subst (λ w. IsAnswered w (the 1)) (sym until) incr_answered;
  not_begun = ap (λ w. begun_call w (the 2)) until ∙ get_not_begun;
}

abbrev begun_calls : List (List Call)
begun_calls = (set ∷ incr ∷ get ∷ []) ∷ []

abbrev got_replies : List (List Reply)
got_replies = (Stored ∷ Number 8 ∷ Value (Some eight) ∷ []) ∷ []

abbrev Named : ℕ → Call → Type 0
Named p call = ((p ≡ 0) × (call ≡ set)) ⊎ (((p ≡ 1) × (call ≡ incr)) ⊎ ((p ≡ 2) × (call ≡ get)))

named : (c p : ℕ) (call : Call)
    → under begun_calls (record { connection = c; ordinal = p }) ≡ Some call
    → (c ≡ 0) × Named p call
named zero zero call h = (refl, inl (refl, sym (same_Some set call h)))
named zero (suc zero) call h = (refl, inr (inl (refl, sym (same_Some incr call h))))
named zero (suc (suc zero)) call h = (refl, inr (inr (refl, sym (same_Some get call h))))
named zero (suc (suc (suc p))) call h = absurd cc
named (suc c) p call h = absurd cc

module _ (h : List OrderedCall) (order : IsLinearization 3 resent_homes resent_events h) where
  get_at : (i : ℕ) × StandsAt h i (the 2)
  get_at = stands 3 resent_homes resent_events h order got_replies replied (the 2) (Value (Some eight)) refl

  incr_at : (i : ℕ) × (i < get_at.0) × StandsAt h i (the 1)
  incr_at = order.in_time (the 1) (the 2) get_at.0 incr_before_get get_at.1

  set_at : (i : ℕ) × (i < incr_at.0) × StandsAt h i (the 0)
  set_at = order.in_time (the 0) (the 1) incr_at.0 set_before_incr incr_at.2

  within : get_at.0 < length h
  within = slice_get_within h get_at.0 get_at.1.entry get_at.1.here

  -- each call of an order is one of the three, at its place
  abbrev Kind : ℕ → OrderedCall → Type 0
  Kind k e =
      ((k ≡ set_at.0) × (said e ≡ (set, Stored)))
      ⊎ (((k ≡ incr_at.0) × (said e ≡ (incr, Number 8))) ⊎ ((k ≡ get_at.0) × (said e ≡ (get, Value (Some eight)))))

  kind : (k : ℕ) (e : OrderedCall) → slice_get h k ≡ Some e → Kind k e
  kind k e here = let is =
      named e.id.connection e.id.ordinal e.call
      (call_there 3 resent_homes resent_events h order begun_calls called k e here) in by_name is.0 is.1
    where
      one : (p i : ℕ) (call : Call) (reply : Reply)
          → e.id.connection ≡ 0
          → e.id.ordinal ≡ p
          → e.call ≡ call
          → StandsAt h i (the p)
          → under got_replies (the p) ≡ Some reply
          → (k ≡ i) × (said e ≡ (call, reply))
      one p i call reply c same asks at got =
          let id : e.id ≡ the p = λ j. record { connection = c j; ordinal = same j } in
          let answer : e.reply ≡ reply = reply_there 3 resent_homes resent_events h order got_replies replied k e here
          reply (ap (under got_replies) id ∙ got) in
          (order.once k i (the p) (record { entry = e; here = here; same = id }) at, λ j. (asks j, answer j))

      by_name : e.id.connection ≡ 0 → Named e.id.ordinal e.call → Kind k e
      by_name c (inl is) = inl (one 0 set_at.0 set Stored c is.0 is.1 set_at.2 refl)
      by_name c (inr (inl is)) = inr (inl (one 1 incr_at.0 incr (Number 8) c is.0 is.1 incr_at.2 refl))
      by_name c (inr (inr is)) = inr (inr (one 2 get_at.0 get (Value (Some eight)) c is.0 is.1 get_at.1 refl))

  first : (e : OrderedCall) → Kind 0 e → (0 ≡ set_at.0) × (said e ≡ (set, Stored))
  first e (inl is) = is
  first e (inr (inl is)) = absurd (omega (arith, is.0, set_at.1))
  first e (inr (inr is)) = absurd (omega (arith, is.0, incr_at.1))

  second : (e : OrderedCall) → 0 ≡ set_at.0 → Kind 1 e → (1 ≡ incr_at.0) × (said e ≡ (incr, Number 8))
  second e before (inl is) = absurd (omega (arith, before, is.0))
  second e before (inr (inl is)) = is
  second e before (inr (inr is)) = absurd (omega (arith, before, is.0, set_at.1, incr_at.1))

  third : (e : OrderedCall) → 0 ≡ set_at.0 → 1 ≡ incr_at.0 → Kind 2 e → (2 ≡ get_at.0)
      × (said e ≡ (get, Value (Some eight)))
  third e before between (inl is) = absurd (omega (arith, before, is.0))
  third e before between (inr (inl is)) = absurd (omega (arith, between, is.0))
  third e before between (inr (inr is)) = is

  no_fourth : (e : OrderedCall) → 0 ≡ set_at.0 → 1 ≡ incr_at.0 → 2 ≡ get_at.0 → Kind 3 e → ⊥
  no_fourth e before between behind (inl is) = omega (arith, before, is.0)
  no_fourth e before between behind (inr (inl is)) = omega (arith, between, is.0)
  no_fourth e before between behind (inr (inr is)) = omega (arith, behind, is.0)

  enough : 2 < length h
  enough = omega (arith, within, incr_at.1, set_at.1)

-- the set, the incr, the get: no other order is one
pub only_order : (h : List OrderedCall)
    → IsLinearization 3 resent_homes resent_events h
    → map said h ≡ (set, Stored) ∷ (incr, Number 8) ∷ (get, Value (Some eight)) ∷ []
only_order [] order = absurd (omega (arith, enough [] order))
only_order (e ∷ []) order = absurd (omega (arith, enough (e ∷ []) order))
only_order (e ∷ f ∷ []) order = absurd (omega (arith, enough (e ∷ f ∷ []) order))
only_order (e ∷ f ∷ g ∷ []) order =
    let h : List OrderedCall = e ∷ f ∷ g ∷ [] in
    let one = first h order e (kind h order 0 e refl) in
    let two = second h order f one.0 (kind h order 1 f refl) in
    let three = third h order g one.0 two.0 (kind h order 2 g refl) in
    λ i. one.1 i ∷ two.1 i ∷ three.1 i ∷ []
only_order (e ∷ f ∷ g ∷ d ∷ t) order =
    let h : List OrderedCall = e ∷ f ∷ g ∷ d ∷ t in
    let one = first h order e (kind h order 0 e refl) in
    let two = second h order f one.0 (kind h order 1 f refl) in
    let three = third h order g one.0 two.0 (kind h order 2 g refl) in
    absurd (no_fourth h order d one.0 two.0 three.0 (kind h order 3 d refl))

-- the number in digits
pub the_order : (h : List OrderedCall) → IsLinearization 3 resent_homes resent_events h → worked.said h ≡ resent_order
the_order h order =
    only_order h order ∙ ap (λ digits. (set, Stored) ∷ (incr, Number 8) ∷ (get, Value (Some (eight_with digits))) ∷ [])
    (decimal_digit 8 (omega arith))

-- and so it is the order that there is
pub its_order : worked.said (one_order 3 resent_homes resent_events (omega arith)).0 ≡ resent_order
its_order = let order = one_order 3 resent_homes resent_events (omega arith) in the_order order.0 order.1
