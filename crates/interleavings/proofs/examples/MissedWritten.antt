-- A set whose client was written its reply, and a get that begins afterwards and whose client was written that there is
-- nothing: no order explains both.
use Rattle.std.proofs.Common.{◌≡◌, ◌≢◌, ℕ, zero, suc, ◌<◌, List, [], ◌∷◌, None, Some, refl, arith, ap, sym, ◌∙◌, subst}
use Rattle.std.proofs.Common.{◌⊎◌, inl, inr}
use Rattle.std.specs.Prelude.{slice_get}
use Rattle.std.proofs.lemmas.Bool.{cases_eq}
use Rattle.std.proofs.lemmas.Option.{same_Some}
use Rattle.table.specs.Histories.{IsLegal}
use Rattle.table.specs.declared.operations.Call.{Call}
use Rattle.table.specs.declared.operations.Reply.{Reply}
use Rattle.table.specs.declared.operations.Reply.TheVariants.{Value}
use Rattle.world.specs.Calls.{CallId}
use Rattle.world.specs.Orders.{OrderedCall, StandsAt}
use Rattle.world.specs.WorkedSchedules.{name, said}
use Rattle.world.proofs.examples.WorkedDirtyOrder.{unseen_set_is_illegal}
use Rattle.interleavings.specs.Chains.{Chain}
use Rattle.interleavings.specs.Moves.{read_of}
use Rattle.interleavings.specs.WorkedRuns.{key, set}
use Rattle.interleavings.specs.LeasedMoves.{LeasedMove, leased, reply_written}
use Rattle.interleavings.specs.LeasedOrders.{PrecedesWritten, IsOrderOfWritten, HasNoOrderOfWritten}

named_so : (x : CallId) (c p : ℕ) → x.connection ≡ c → x.ordinal ≡ p → x ≡ name c p
named_so x c p e f i = record { connection = e i; ordinal = f i }

-- the one call of a seat
id_at : (asked : Call) (p : ℕ) (call : Call) → slice_get (asked ∷ []) p ≡ Some call → (p ≡ 0) × (call ≡ asked)
id_at asked zero call h = (refl, sym (same_Some asked call h))
id_at asked (suc p) call h = absurd cc

-- the set first and then the get that finds nothing aren't legal
unseen : (e f : OrderedCall) (t : List OrderedCall)
    → IsLegal (said (e ∷ f ∷ t))
    → e.call ≡ set
    → f.call ≡ read_of key
    → f.reply ≡ Value None
    → ⊥
unseen e f t legal first second reply =
    let P : Call → Call → Reply → Type 0 = λ c d r. IsLegal ((c, e.reply) ∷ (d, r) ∷ said t) in
    unseen_set_is_illegal e.reply (said t)
    (subst (λ r. P set (read_of key) r) reply
    (subst (λ d. P set d f.reply) second (subst (λ c. P c f.call f.reply) first legal)))

alone : (e x : OrderedCall) (i j : ℕ) → i < j → slice_get (e ∷ []) j ≡ Some x → ⊥
alone e x i zero l h = omega (arith, l)
alone e x i (suc j) l h = absurd cc

module _ (count : ℕ) (homes : List ℕ) (moves : List LeasedMove)
    (first : ((leased count homes moves).chain.seats 0).calls ≡ set ∷ [])
    (second : ((leased count homes moves).chain.seats 1).calls ≡ read_of key ∷ [])
    (others : (c : ℕ) → c ≢ 0 → c ≢ 1 → ((leased count homes moves).chain.seats c).calls ≡ [])
    (missed : reply_written (leased count homes moves) (name 1 0) ≡ Some (Value None))
    (precedes : PrecedesWritten count homes moves (name 0 0) (name 1 0)) where
  abbrev last : Chain
  last = (leased count homes moves).chain

  abbrev Named : ℕ → ℕ → Call → Type 0
  Named c p call = ((c ≡ 0) × (p ≡ 0) × (call ≡ set)) ⊎ ((c ≡ 1) × (p ≡ 0) × (call ≡ read_of key))

  named : (c p : ℕ) (call : Call) → slice_get (last.seats c).calls p ≡ Some call → Named c p call
  named c p call h = elim (cases_eq c 0) [
    | inl at_first ↦
        let it = id_at set p call
        (ap (λ cs. slice_get cs p) (sym (ap (λ x. (last.seats x).calls) at_first ∙ first)) ∙ h) in
        inl (at_first, it.0, it.1)
    | inr not_first ↦ elim (cases_eq c 1) [
      | inl at_second ↦
          let it = id_at (read_of key) p call
          (ap (λ cs. slice_get cs p) (sym (ap (λ x. (last.seats x).calls) at_second ∙ second)) ∙ h) in
          inr (at_second, it.0, it.1)
      | inr not_second ↦ absurd (
          let none : slice_get [] p ≡ Some call =
          ap (λ cs. slice_get cs p) (sym (others c not_first not_second)) ∙ h in
          cc
          )
    ]
  ]

  module _ (h : List OrderedCall) (order : IsOrderOfWritten count homes moves h) where
    get_at : (j : ℕ) × (at : StandsAt h j (name 1 0)) × (at.entry.reply ≡ Value None)
    get_at = order.answered (name 1 0) (Value None) missed

    set_at : (i : ℕ) × (i < get_at.0) × StandsAt h i (name 0 0)
    set_at = order.in_time (name 0 0) (name 1 0) get_at.0 precedes get_at.1

    entry_named : (i : ℕ) (e : OrderedCall) → slice_get h i ≡ Some e → Named e.id.connection e.id.ordinal e.call
    entry_named i e here = named e.id.connection e.id.ordinal e.call (order.begun i e here)

    -- an order doesn't begin with the two calls, whichever of them is first
    first_two : (e f : OrderedCall) (t : List OrderedCall)
        → h ≡ e ∷ f ∷ t
        → slice_get h 0 ≡ Some e
        → slice_get h 1 ≡ Some f
        → Named e.id.connection e.id.ordinal e.call
        → Named f.id.connection f.id.ordinal f.call
        → ⊥
    first_two e f t is here next (inr get_first) other =
        let at : StandsAt h 0 (name 1 0) =
        record { entry = e; here = here; same = named_so e.id 1 0 get_first.0 get_first.1 } in
        let ordinal : 0 ≡ get_at.0 = order.once 0 get_at.0 (name 1 0) at get_at.1 in
        omega (arith, ordinal, set_at.1)
    first_two e f t is here next (inl set_first) (inl again) =
        let at : StandsAt h 0 (name 0 0) =
        record { entry = e; here = here; same = named_so e.id 0 0 set_first.0 set_first.1 } in
        let twice : StandsAt h 1 (name 0 0) =
        record { entry = f; here = next; same = named_so f.id 0 0 again.0 again.1 } in
        let ordinal : 0 ≡ 1 = order.once 0 1 (name 0 0) at twice in
        omega (arith, ordinal)
    first_two e f t is here next (inl set_first) (inr get_second) =
        let at : StandsAt h 1 (name 1 0) =
        record { entry = f; here = next; same = named_so f.id 1 0 get_second.0 get_second.1 } in
        let ordinal : get_at.0 ≡ 1 = order.once get_at.0 1 (name 1 0) get_at.1 at in
        let one : f ≡ get_at.1.entry =
        same_Some _ _ (sym next ∙ ap (slice_get h) (sym ordinal) ∙ get_at.1.here) in
        let reply : f.reply ≡ Value None = ap (λ (x : OrderedCall). x.reply) one ∙ get_at.2 in
        unseen e f t (subst (λ es. IsLegal (said es)) is order.legal) set_first.2 get_second.2 reply

  -- no list is an order of these calls
  pub none_explains : HasNoOrderOfWritten count homes moves
  none_explains [] order = (let here = (get_at [] order).1.here in absurd cc)
  none_explains (e ∷ []) order =
      let s = set_at (e ∷ []) order in
      let g = get_at (e ∷ []) order in
      alone e g.1.entry s.0 g.0 s.1 g.1.here
  none_explains (e ∷ f ∷ t) order =
      first_two (e ∷ f ∷ t) order e f t refl refl refl (entry_named (e ∷ f ∷ t) order 0 e refl)
      (entry_named (e ∷ f ∷ t) order 1 f refl)
