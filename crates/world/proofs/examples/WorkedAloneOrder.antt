-- A server left alone: the answered set stands in each order of the calls, and nothing else does.
use Rattle.std.proofs.Common.{◌≡◌, ℕ, zero, suc, List, [], ◌∷◌, Some, refl, sym, ap, ◌∙◌, arith}
use Rattle.std.proofs.lemmas.Option.{same_Some}
use Rattle.table.specs.declared.operations.Call.{Call}
use Rattle.table.specs.declared.operations.Reply.TheVariants.{Stored}
use Rattle.world.specs.Calls.{CallId}
use Rattle.world.specs.Orders.{OrderedCall, IsLinearization}
use Rattle.world.specs.WorkedSchedules.{name, said, alone_homes, alone_events, alone_order}
use Rattle.world.proofs.examples.WorkedOrders.{under, call_there, reply_there, stands, read_twice}
use Rattle.world.proofs.order.OneOrder.{one_order}
use Rattle.world.proofs.examples.WorkedAlone.{set, called, replied}

abbrev the_set : CallId
the_set = name 0 0

-- an order without the set is none: it was answered
pub without_the_set : IsLinearization 3 alone_homes alone_events [] → ⊥
without_the_set order = let at = stands 3 alone_homes alone_events [] order _ replied the_set Stored refl in absurd
    (let e = at.1.here in cc)

named : (c p : ℕ) (call : Call)
    → under ((set ∷ []) ∷ []) (record { connection = c; ordinal = p }) ≡ Some call
    → ((c ≡ 0) × (p ≡ 0) × (call ≡ set))
named zero zero call h = (refl, refl, sym (same_Some set call h))
named zero (suc p) call h = absurd cc
named (suc c) p call h = absurd cc

-- the set alone is the order
pub only_the_set : (h : List OrderedCall) → IsLinearization 3 alone_homes alone_events h → said h ≡ alone_order
only_the_set [] order = absurd (without_the_set order)
only_the_set (e ∷ []) order =
    let name = named e.id.connection e.id.ordinal e.call
    (call_there 3 alone_homes alone_events (e ∷ []) order _ called 0 e refl) in
    let id : e.id ≡ the_set = λ i. record { connection = name.0 i; ordinal = name.1 i } in
    let reply : e.reply ≡ Stored = reply_there 3 alone_homes alone_events (e ∷ []) order _ replied 0 e refl Stored
    (ap (under ((Stored ∷ []) ∷ [])) id) in
    λ i. (name.2 i, reply i) ∷ []
only_the_set (e ∷ f ∷ h) order =
    let first = named e.id.connection e.id.ordinal e.call
    (call_there 3 alone_homes alone_events (e ∷ f ∷ h) order _ called 0 e refl) in
    let second = named f.id.connection f.id.ordinal f.call
    (call_there 3 alone_homes alone_events (e ∷ f ∷ h) order _ called 1 f refl) in
    let same : e.id ≡ f.id =
    (λ i. record { connection = (first.0 ∙ sym second.0) i; ordinal = (first.1 ∙ sym second.1) i }) in
    let ordinal : 0 ≡ 1 = read_twice 3 alone_homes alone_events (e ∷ f ∷ h) order 0 1 e f refl refl same in
    absurd (omega (arith, ordinal))

-- and so it is the order that there is
pub its_order : said (one_order 3 alone_homes alone_events (omega arith)).0 ≡ alone_order
its_order = let order = one_order 3 alone_homes alone_events (omega arith) in only_the_set order.0 order.1
