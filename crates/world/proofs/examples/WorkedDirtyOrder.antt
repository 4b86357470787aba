-- A read that saw nothing of a set: no order has that set before it.
use Rattle.std.proofs.Common.{◌≡◌, ℕ, zero, suc, ◌<◌, List, [], ◌∷◌, Some, None, refl, sym, ap, ◌∙◌, arith, subst, ◌⊎◌}
use Rattle.std.proofs.Common.{inl, inr}
use Rattle.std.specs.Prelude.{codes}
use Rattle.std.specs.FinMap.{empty, get-insert}
use Rattle.std.specs.Cmp.Lexicographic.{nat_list_cmp_total}
use Rattle.std.proofs.lemmas.Option.{same_Some}
use Rattle.table.specs.Histories.{IsLegal}
use Rattle.table.specs.Items.{Item}
use Rattle.table.specs.declared.operations.Call.{Call}
use Rattle.table.specs.declared.operations.Reply.{Reply}
use Rattle.table.specs.declared.operations.Reply.TheVariants.{Value}
use Rattle.world.specs.Calls.{CallId}
use Rattle.world.specs.Orders.{OrderedCall, StandsAt, IsLinearization}
use Rattle.world.specs.WorkedSchedules.{name, said, dirty_homes, dirty_events}
use Rattle.world.proofs.examples.WorkedOrders.{under, call_there, reply_there, read_twice}
use Rattle.world.proofs.examples.WorkedDirtyRead.{key, set, get, called, replied}

abbrev the_set : CallId
the_set = name 0 0

abbrev the_get : CallId
the_get = name 1 0

abbrev item : Item
item = record { flags = 0; bytes = codes "p"; unique = 1 }

-- after the set a single table's get finds its item
pub get_finds : (first second : Reply) (rest : List (Call × Reply))
    → IsLegal ((set, first) ∷ (get, second) ∷ rest)
    → second ≡ Value (Some item)
get_finds first second rest legal = legal.1.0 ∙ ap Value (get-insert nat_list_cmp_total empty key item key)

-- so it isn't legal that the get finds nothing there
pub unseen_set_is_illegal : (first : Reply) (rest : List (Call × Reply))
    → IsLegal ((set, first) ∷ (get, Value None) ∷ rest)
    → ⊥
unseen_set_is_illegal first rest legal =
    let e : Value None ≡ Value (Some item) = get_finds first (Value None) rest legal in absurd cc

named : (c p : ℕ) (call : Call)
    → under ((set ∷ []) ∷ (get ∷ []) ∷ []) (record { connection = c; ordinal = p }) ≡ Some call
    → ((c ≡ 0) × (p ≡ 0) × (call ≡ set)) ⊎ ((c ≡ 1) × (p ≡ 0) × (call ≡ get))
named zero zero call h = inl (refl, refl, sym (same_Some set call h))
named zero (suc p) call h = absurd cc
named (suc zero) zero call h = inr (refl, refl, sym (same_Some get call h))
named (suc zero) (suc p) call h = absurd cc
named (suc (suc c)) p call h = absurd cc

id_of : (c p d q : ℕ)
    → c ≡ d
    → p ≡ q
    → ◌≡◌ {A = CallId} (record { connection = c; ordinal = p }) (record { connection = d; ordinal = q })
id_of c p d q e f i = record { connection = e i; ordinal = f i }

-- an order in which the set stands first and the get next is none
set_first : (e f : OrderedCall) (h : List OrderedCall)
    → IsLinearization 3 dirty_homes dirty_events (e ∷ f ∷ h)
    → e.call ≡ set
    → f.call ≡ get
    → f.reply ≡ Value None
    → ⊥
set_first e f h order first second reply =
    let P : Call → Call → Reply → Type 0 = λ c d r. IsLegal ((c, e.reply) ∷ (d, r) ∷ said h) in
    unseen_set_is_illegal e.reply (said h)
    (subst (λ r. P set get r) reply
    (subst (λ d. P set d f.reply) second (subst (λ c. P c f.call f.reply) first order.legal)))

-- the unanswered set stands nowhere before the get
pub set_before_get : (h : List OrderedCall)
    → IsLinearization 3 dirty_homes dirty_events h
    → (i j : ℕ)
    → i < j
    → StandsAt h i the_set
    → StandsAt h j the_get
    → ⊥
set_before_get [] order i j l set_at get_at = let e = set_at.here in absurd cc
set_before_get (e ∷ []) order i zero l set_at get_at = absurd (omega (arith, l))
set_before_get (e ∷ []) order i (suc j) l set_at get_at = let e = get_at.here in absurd cc
set_before_get (e ∷ f ∷ h) order i j l set_at get_at =
    let first = named e.id.connection e.id.ordinal e.call
    (call_there 3 dirty_homes dirty_events (e ∷ f ∷ h) order _ called 0 e refl) in
    let second = named f.id.connection f.id.ordinal f.call
    (call_there 3 dirty_homes dirty_events (e ∷ f ∷ h) order _ called 1 f refl) in
    by_names first second
  where
    by_names : ((e.id.connection ≡ 0) × (e.id.ordinal ≡ 0) × (e.call ≡ set))
        ⊎ ((e.id.connection ≡ 1) × (e.id.ordinal ≡ 0) × (e.call ≡ get))
        → ((f.id.connection ≡ 0) × (f.id.ordinal ≡ 0) × (f.call ≡ set))
        ⊎ ((f.id.connection ≡ 1) × (f.id.ordinal ≡ 0) × (f.call ≡ get))
        → ⊥
    by_names (inr get_first) second =
        let at_0 : StandsAt (e ∷ f ∷ h) 0 the_get =
        record { entry = e; here = refl; same = id_of _ _ _ _ get_first.0 get_first.1 } in
        let ordinal : 0 ≡ j = order.once 0 j the_get at_0 get_at in
        absurd (omega (arith, ordinal, l))
    by_names (inl first) (inl again) =
        let same : e.id ≡ f.id = id_of _ _ _ _ (first.0 ∙ sym again.0) (first.1 ∙ sym again.1) in
        let ordinal : 0 ≡ 1 = read_twice 3 dirty_homes dirty_events (e ∷ f ∷ h) order 0 1 e f refl refl same in
        absurd (omega (arith, ordinal))
    by_names (inl first) (inr second) =
        let id : f.id ≡ the_get = id_of _ _ _ _ second.0 second.1 in
        let reply : f.reply ≡ Value None = reply_there 3 dirty_homes dirty_events (e ∷ f ∷ h) order _ replied 1 f refl
        (Value None) (ap (under ([] ∷ (Value None ∷ []) ∷ [])) id) in
        set_first e f h order first.2 second.2 reply
