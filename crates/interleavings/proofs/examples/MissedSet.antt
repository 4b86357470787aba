-- A set that was answered, and a look that begins afterwards and shows nothing of it: no order has both.
use Rattle.std.proofs.Common.{◌≡◌, ◌≢◌, ℕ, zero, suc, ◌<◌, List, [], ◌∷◌, ◌++◌, length, take, None, Some, refl, arith}
use Rattle.std.proofs.Common.{ap, sym, ◌∙◌, subst, ◌⊎◌, inl, inr}
use Rattle.std.specs.Prelude.{slice_get, slice_index_or}
use Rattle.std.proofs.lemmas.Bool.{cases_eq}
use Rattle.std.proofs.lemmas.Option.{same_Some}
use Rattle.table.specs.Histories.{IsLegal}
use Rattle.table.specs.declared.operations.Call.{Call}
use Rattle.table.specs.declared.operations.Reply.{Reply}
use Rattle.table.specs.declared.operations.Reply.TheVariants.{Stored, Value}
use Rattle.world.specs.Calls.{CallId}
use Rattle.world.specs.Orders.{OrderedCall, StandsAt}
use Rattle.world.specs.WorkedSchedules.{name, said}
use Rattle.world.proofs.examples.WorkedDirtyOrder.{unseen_set_is_illegal}
use Rattle.world.proofs.order.Since.{is_some}
use Rattle.interleavings.specs.Chains.{Seat, Chain, with_at, with_seat, opening_seat, opening_chain}
use Rattle.interleavings.specs.Moves.{Move, Looks, read_of}
use Rattle.interleavings.specs.Orders.{begun_call, reply_to}
use Rattle.interleavings.specs.OtherMoves.{Doing, moved_by, PrecedesBy, IsLinearizationBy, HasNoOrder}
use Rattle.interleavings.specs.WorkedRuns.{key, set}
use Rattle.interleavings.proofs.lists.ChangedFunctions.{at_same, at_other}
use Rattle.interleavings.proofs.relation.Transfer.{take_front}
use Rattle.interleavings.proofs.examples.InTwoParts.{moved_from_by-append}
use Rattle.interleavings.proofs.examples.WorkedLooks.{looked_seat}

-- a seat of this home that has begun the set, with these replies, and these in its queue
abbrev pub set_seat : ℕ → List Reply → List Reply → Seat
set_seat home got queued = record { home = home; calls = set ∷ []; got = got; queued = queued }

-- the seats after a set of the first one: it was begun, then its reply stood in the queue, and then it was taken
abbrev pub served_seats : ℕ → List ℕ → ℕ → ℕ → Seat
served_seats count homes home =
    with_at
    (with_at (with_at (opening_chain count homes).seats 0 (set_seat home [] [])) 0 (set_seat home [] (Stored ∷ [])))
    0 (set_seat home (Stored ∷ []) [])

-- the first of them has its reply
pub served_first : (count : ℕ) (homes : List ℕ) (home : ℕ)
    → served_seats count homes home 0 ≡ set_seat home (Stored ∷ []) []
served_first count homes home = at_same _ 0 _

-- any other is as at the start
pub served_other : (count : ℕ) (homes : List ℕ) (home c : ℕ)
    → c ≢ 0
    → served_seats count homes home c ≡ opening_seat (slice_index_or homes c count)
served_other count homes home c other = at_other _ 0 _ c other ∙ at_other _ 0 _ c other ∙ at_other _ 0 _ c other

-- a call's name is its seat and its ordinal
named_so : (x : CallId) (c p : ℕ) → x.connection ≡ c → x.ordinal ≡ p → x ≡ name c p
named_so x c p e f i = record { connection = e i; ordinal = f i }

-- the one call of a seat
id_at : (asked : Call) (p : ℕ) (call : Call) → slice_get (asked ∷ []) p ≡ Some call → (p ≡ 0) × (call ≡ asked)
id_at asked zero call h = (refl, sym (same_Some asked call h))
id_at asked (suc p) call h = absurd cc

-- the set first and then the get that finds nothing aren't legal
unseen : (e f : OrderedCall) (t : List OrderedCall)
    → IsLegal (said (e ∷ f ∷ t))
    → e.call ≡ set
    → f.call ≡ read_of key
    → f.reply ≡ Value None
    → ⊥
unseen e f t legal first second reply =
    let P : Call → Call → Reply → Type 0 = λ c d r. IsLegal ((c, e.reply) ∷ (d, r) ∷ said t) in
    unseen_set_is_illegal e.reply (said t)
    (subst (λ r. P set (read_of key) r) reply
    (subst (λ d. P set d f.reply) second (subst (λ c. P c f.call f.reply) first legal)))

alone : (e x : OrderedCall) (i j : ℕ) → i < j → slice_get (e ∷ []) j ≡ Some x → ⊥
alone e x i zero l h = omega (arith, l)
alone e x i (suc j) l h = absurd cc

module _ (does : Doing) (count : ℕ) (homes : List ℕ) (early : List Move) (first_home second_home : ℕ)
    (served : (moved_by does count homes early).seats ≡ served_seats count homes first_home)
    (shown : does (moved_by does count homes early) (Looks 1 key)
    ≡ with_seat (moved_by does count homes early) 1 (looked_seat second_home None)) where
  abbrev moves : List Move
  moves = early ++ Looks 1 key ∷ []

  abbrev before : Chain
  before = moved_by does count homes early

  abbrev last : Chain
  last = moved_by does count homes moves

  -- ---- the seats

  seats_last : last.seats ≡ with_at (served_seats count homes first_home) 1 (looked_seat second_home None)
  seats_last =
      ap (λ (l : Chain). l.seats)
      (moved_from_by-append does (opening_chain count homes) early (Looks 1 key ∷ []) ∙ shown)
      ∙ ap (λ (f : ℕ → Seat). with_at f 1 (looked_seat second_home None)) served

  first_seat : last.seats 0 ≡ set_seat first_home (Stored ∷ []) []
  first_seat =
      ap (λ (f : ℕ → Seat). f 0) seats_last ∙ at_other _ 1 _ 0 (λ e. omega (arith, e))
      ∙ served_first count homes first_home

  second_seat : last.seats 1 ≡ looked_seat second_home None
  second_seat = ap (λ (f : ℕ → Seat). f 1) seats_last ∙ at_same _ 1 _

  other_seat : (c : ℕ) → c ≢ 0 → c ≢ 1 → (last.seats c).calls ≡ []
  other_seat c not_first not_second = ap (λ (f : ℕ → Seat). (f c).calls) seats_last
      ∙ ap (λ (s : Seat). s.calls) (at_other _ 1 _ c not_second ∙ served_other count homes first_home c not_first)

  -- ---- the calls

  abbrev Named : ℕ → ℕ → Call → Type 0
  Named c p call = ((c ≡ 0) × (p ≡ 0) × (call ≡ set)) ⊎ ((c ≡ 1) × (p ≡ 0) × (call ≡ read_of key))

  named : (c p : ℕ) (call : Call) → slice_get (last.seats c).calls p ≡ Some call → Named c p call
  named c p call h = elim (cases_eq c 0) [
    | inl first ↦
        let it = id_at set p call
        (ap (λ (s : Seat). slice_get s.calls p) (sym (ap last.seats first ∙ first_seat)) ∙ h) in
        inl (first, it.0, it.1)
    | inr not_first ↦ elim (cases_eq c 1) [
      | inl second ↦
          let it = id_at (read_of key) p call
          (ap (λ (s : Seat). slice_get s.calls p) (sym (ap last.seats second ∙ second_seat)) ∙ h) in
          inr (second, it.0, it.1)
      | inr not_second ↦ absurd (
          let none : slice_get [] p ≡ Some call =
          ap (λ cs. slice_get cs p) (sym (other_seat c not_first not_second)) ∙ h in
          cc
          )
    ]
  ]

  missed : reply_to last (name 1 0) ≡ Some (Value None)
  missed = ap (λ (s : Seat). slice_get s.got 0) second_seat

  -- the set is answered before the look
  until : moved_by does count homes (take (length early) moves) ≡ before
  until = ap (moved_by does count homes) (take_front early (Looks 1 key ∷ []))

  stored : reply_to before (name 0 0) ≡ Some Stored
  stored = ap (λ (f : ℕ → Seat). slice_get (f 0).got 0) served
      ∙ ap (λ (s : Seat). slice_get s.got 0) (served_first count homes first_home)

  not_begun : begun_call before (name 1 0) ≡ None
  not_begun = ap (λ (f : ℕ → Seat). slice_get (f 1).calls 0) served
      ∙ ap (λ (s : Seat). slice_get s.calls 0) (served_other count homes first_home 1 (λ e. omega (arith, e)))

  precedes : PrecedesBy does count homes moves (name 0 0) (name 1 0)
  precedes = record {
    k = length early;
    answered = is_some _ Stored (ap (λ l. reply_to l (name 0 0)) until ∙ stored);
    not_begun = ap (λ l. begun_call l (name 1 0)) until ∙ not_begun;
  }

  -- ---- no order

  module _ (h : List OrderedCall) (order : IsLinearizationBy does count homes moves h) where
    get_at : (j : ℕ) × (at : StandsAt h j (name 1 0)) × (at.entry.reply ≡ Value None)
    get_at = order.answered (name 1 0) (Value None) missed

    set_at : (i : ℕ) × (i < get_at.0) × StandsAt h i (name 0 0)
    set_at = order.in_time (name 0 0) (name 1 0) get_at.0 precedes get_at.1

    entry_named : (i : ℕ) (e : OrderedCall) → slice_get h i ≡ Some e → Named e.id.connection e.id.ordinal e.call
    entry_named i e here = named e.id.connection e.id.ordinal e.call (order.begun i e here)

    -- an order doesn't begin with the two calls, whichever of them is first
    first_two : (e f : OrderedCall) (t : List OrderedCall)
        → h ≡ e ∷ f ∷ t
        → slice_get h 0 ≡ Some e
        → slice_get h 1 ≡ Some f
        → Named e.id.connection e.id.ordinal e.call
        → Named f.id.connection f.id.ordinal f.call
        → ⊥
    first_two e f t is here next (inr get_first) second =
        let at : StandsAt h 0 (name 1 0) =
        record { entry = e; here = here; same = named_so e.id 1 0 get_first.0 get_first.1 } in
        let ordinal : 0 ≡ get_at.0 = order.once 0 get_at.0 (name 1 0) at get_at.1 in
        omega (arith, ordinal, set_at.1)
    first_two e f t is here next (inl first) (inl again) =
        let at : StandsAt h 0 (name 0 0) =
        record { entry = e; here = here; same = named_so e.id 0 0 first.0 first.1 } in
        let twice : StandsAt h 1 (name 0 0) =
        record { entry = f; here = next; same = named_so f.id 0 0 again.0 again.1 } in
        let ordinal : 0 ≡ 1 = order.once 0 1 (name 0 0) at twice in
        omega (arith, ordinal)
    first_two e f t is here next (inl first) (inr second) =
        let at : StandsAt h 1 (name 1 0) =
        record { entry = f; here = next; same = named_so f.id 1 0 second.0 second.1 } in
        let ordinal : get_at.0 ≡ 1 = order.once get_at.0 1 (name 1 0) get_at.1 at in
        let one : f ≡ get_at.1.entry =
        same_Some _ _ (sym next ∙ ap (slice_get h) (sym ordinal) ∙ get_at.1.here) in
        let reply : f.reply ≡ Value None = ap (λ (x : OrderedCall). x.reply) one ∙ get_at.2 in
        unseen e f t (subst (λ es. IsLegal (said es)) is order.legal) first.2 second.2 reply

  -- no list is an order of these calls
  pub no_order : HasNoOrder does count homes moves
  no_order [] order = (let here = (get_at [] order).1.here in absurd cc)
  no_order (e ∷ []) order =
      let s = set_at (e ∷ []) order in
      let g = get_at (e ∷ []) order in
      alone e g.1.entry s.0 g.0 s.1 g.1.here
  no_order (e ∷ f ∷ t) order =
      first_two (e ∷ f ∷ t) order e f t refl refl refl (entry_named (e ∷ f ∷ t) order 0 e refl)
      (entry_named (e ∷ f ∷ t) order 1 f refl)
