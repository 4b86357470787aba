-- A set that was answered, and a look that begins afterwards and finds nothing of it: no order has both.
use Rattle.std.proofs.Common.{◌≡◌, ℕ, zero, suc, ◌<◌, List, [], ◌∷◌, ◌++◌, length, take, None, Some, refl, arith}
use Rattle.std.proofs.Common.{ap, sym, ◌∙◌, subst, ◌⊎◌, inl, inr}
use Rattle.std.specs.Prelude.{slice_get}
use Rattle.std.proofs.lemmas.Option.{same_Some}
use Rattle.table.specs.Histories.{IsLegal}
use Rattle.table.specs.declared.operations.Call.{Call}
use Rattle.table.specs.declared.operations.Reply.{Reply}
use Rattle.table.specs.declared.operations.Reply.TheVariants.{Stored, Value}
use Rattle.world.specs.Calls.{CallId}
use Rattle.world.specs.Orders.{OrderedCall, StandsAt}
use Rattle.world.specs.WorkedSchedules.{name, said}
use Rattle.world.proofs.examples.WorkedDirtyOrder.{unseen_set_is_illegal}
use Rattle.world.proofs.order.Since.{is_some}
use Rattle.interleavings.specs.Moves.{read_of}
use Rattle.interleavings.specs.WorkedRuns.{key, set}
use Rattle.interleavings.proofs.relation.Transfer.{take_front}
use Rattle.local_histories.specs.Events.{Event}
use Rattle.local_histories.specs.Objects.{OpenedChain}
use Rattle.local_histories.specs.Standing.{begun_at, ended_at, home_of, port_of}
use Rattle.local_histories.specs.CallOrders.{begun_call, reply_to, Precedes, IsOrderOf, HasNoOrder}

-- a call's name is its seat and its ordinal
named_so : (x : CallId) (c p : ℕ) → x.connection ≡ c → x.ordinal ≡ p → x ≡ name c p
named_so x c p e f i = record { connection = e i; ordinal = f i }

-- the one call of a seat
id_at : (asked : Call) (p : ℕ) (call : Call) → slice_get (asked ∷ []) p ≡ Some call → (p ≡ 0) × (call ≡ asked)
id_at asked zero call h = (refl, sym (same_Some asked call h))
id_at asked (suc p) call h = absurd cc

-- the set first and then the get that finds nothing aren't legal
unseen : (e f : OrderedCall) (t : List OrderedCall)
    → IsLegal (said (e ∷ f ∷ t))
    → e.call ≡ set
    → f.call ≡ read_of key
    → f.reply ≡ Value None
    → ⊥
unseen e f t legal first second reply =
    let P : Call → Call → Reply → Type 0 = λ c d r. IsLegal ((c, e.reply) ∷ (d, r) ∷ said t) in
    unseen_set_is_illegal e.reply (said t)
    (subst (λ r. P set (read_of key) r) reply
    (subst (λ d. P set d f.reply) second (subst (λ c. P c f.call f.reply) first legal)))

alone_there : (e x : OrderedCall) (i j : ℕ) → i < j → slice_get (e ∷ []) j ≡ Some x → ⊥
alone_there e x i zero l h = omega (arith, l)
alone_there e x i (suc j) l h = absurd cc

abbrev calls_of_seat : OpenedChain → ℕ → List Event → List Call
calls_of_seat s c es = begun_at (home_of s c) (port_of s c) es

abbrev replies_of_seat : OpenedChain → ℕ → List Event → List Reply
replies_of_seat s c es = ended_at (home_of s c) (port_of s c) es

module _ (s : OpenedChain) (early : List Event) (look : Event)
    (first : calls_of_seat s 0 (early ++ look ∷ []) ≡ set ∷ [])
    (second : calls_of_seat s 1 (early ++ look ∷ []) ≡ read_of key ∷ [])
    (others : (c : ℕ) → calls_of_seat s (suc (suc c)) (early ++ look ∷ []) ≡ [])
    (finds : replies_of_seat s 1 (early ++ look ∷ []) ≡ Value None ∷ [])
    (stored : replies_of_seat s 0 early ≡ Stored ∷ [])
    (later : calls_of_seat s 1 early ≡ []) where
  abbrev es : List Event
  es = early ++ look ∷ []

  abbrev Named : ℕ → ℕ → Call → Type 0
  Named c p call = ((c ≡ 0) × (p ≡ 0) × (call ≡ set)) ⊎ ((c ≡ 1) × (p ≡ 0) × (call ≡ read_of key))

  named : (c p : ℕ) (call : Call) → slice_get (calls_of_seat s c es) p ≡ Some call → Named c p call
  named zero p call h =
      let it = id_at set p call (ap (λ cs. slice_get cs p) (sym first) ∙ h) in
      inl (refl, it.0, it.1)
  named (suc zero) p call h =
      let it = id_at (read_of key) p call (ap (λ cs. slice_get cs p) (sym second) ∙ h) in
      inr (refl, it.0, it.1)
  named (suc (suc c)) p call h = absurd (
      let none : slice_get [] p ≡ Some call = ap (λ cs. slice_get cs p) (sym (others c)) ∙ h in
      cc
      )

  missed : reply_to s es (name 1 0) ≡ Some (Value None)
  missed = ap (λ rs. slice_get rs 0) finds

  until : take (length early) es ≡ early
  until = take_front early (look ∷ [])

  precedes : Precedes s es (name 0 0) (name 1 0)
  precedes = record {
    k = length early;
    answered = is_some _ Stored (ap (λ fs. reply_to s fs (name 0 0)) until ∙ ap (λ rs. slice_get rs 0) stored);
    not_begun = ap (λ fs. begun_call s fs (name 1 0)) until ∙ ap (λ cs. slice_get cs 0) later;
  }

  module _ (h : List OrderedCall) (order : IsOrderOf s es h) where
    get_at : (j : ℕ) × (at : StandsAt h j (name 1 0)) × (at.entry.reply ≡ Value None)
    get_at = order.answered (name 1 0) (Value None) missed

    set_at : (i : ℕ) × (i < get_at.0) × StandsAt h i (name 0 0)
    set_at = order.in_time (name 0 0) (name 1 0) get_at.0 precedes get_at.1

    entry_named : (i : ℕ) (e : OrderedCall) → slice_get h i ≡ Some e → Named e.id.connection e.id.ordinal e.call
    entry_named i e here = named e.id.connection e.id.ordinal e.call (order.begun i e here)

    -- an order doesn't begin with the two calls, whichever of them is first
    first_two : (e f : OrderedCall) (t : List OrderedCall)
        → h ≡ e ∷ f ∷ t
        → slice_get h 0 ≡ Some e
        → slice_get h 1 ≡ Some f
        → Named e.id.connection e.id.ordinal e.call
        → Named f.id.connection f.id.ordinal f.call
        → ⊥
    first_two e f t is here next (inr get_first) second =
        let at : StandsAt h 0 (name 1 0) =
        record { entry = e; here = here; same = named_so e.id 1 0 get_first.0 get_first.1 } in
        let ordinal : 0 ≡ get_at.0 = order.once 0 get_at.0 (name 1 0) at get_at.1 in
        omega (arith, ordinal, set_at.1)
    first_two e f t is here next (inl first) (inl again) =
        let at : StandsAt h 0 (name 0 0) =
        record { entry = e; here = here; same = named_so e.id 0 0 first.0 first.1 } in
        let twice : StandsAt h 1 (name 0 0) =
        record { entry = f; here = next; same = named_so f.id 0 0 again.0 again.1 } in
        let ordinal : 0 ≡ 1 = order.once 0 1 (name 0 0) at twice in
        omega (arith, ordinal)
    first_two e f t is here next (inl first) (inr second) =
        let at : StandsAt h 1 (name 1 0) =
        record { entry = f; here = next; same = named_so f.id 1 0 second.0 second.1 } in
        let ordinal : get_at.0 ≡ 1 = order.once get_at.0 1 (name 1 0) get_at.1 at in
        let one : f ≡ get_at.1.entry =
        same_Some _ _ (sym next ∙ ap (slice_get h) (sym ordinal) ∙ get_at.1.here) in
        let reply : f.reply ≡ Value None = ap (λ (x : OrderedCall). x.reply) one ∙ get_at.2 in
        unseen e f t (subst (λ es. IsLegal (said es)) is order.legal) first.2 second.2 reply

  -- no list is an order of these calls
  pub no_order : HasNoOrder s es
  no_order [] order = (let here = (get_at [] order).1.here in absurd cc)
  no_order (e ∷ []) order =
      let z = set_at (e ∷ []) order in
      let g = get_at (e ∷ []) order in
      alone_there e g.1.entry z.0 g.0 z.1 g.1.here
  no_order (e ∷ f ∷ t) order =
      first_two (e ∷ f ∷ t) order e f t refl refl refl (entry_named (e ∷ f ∷ t) order 0 e refl)
      (entry_named (e ∷ f ∷ t) order 1 f refl)
