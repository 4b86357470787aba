-- A lease that holds was prolonged by a beat, less than its term after the beat's stamp; and what a server knows it
-- learned while its lease held.
use Rattle.std.proofs.Common.{◌≡◌, ℕ, ◌+◌, ◌-◌, ◌^◌, ◌≤◌, ◌<◌, ◌&&◌, ◌⊎◌, inl, inr, max, min, nat_eq, nat_le}
use Rattle.std.proofs.Common.{true, false, List, [], ◌∷◌, Option, None, Some, if◌then◌else◌, refl, ap, ◌∙◌, arith}
use Rattle.std.proofs.Common.{bit_or, Bool, sym}
use Rattle.std.proofs.lemmas.Bool.{cases_Bool, cases_lt, and_parts, eqb-true, leb-true, ltb-true}
use Rattle.leases.specs.declared.orders.Order.{Order}
use Rattle.leases.specs.declared.orders.Order.TheVariants.{Reign, Beat, Silent, Gone}
use Rattle.leases.specs.Sets.{has}
use Rattle.leases.specs.Holding.{LeaseState, unheld, holds, learned, prolonged, obeyed, hear, hears, end_from}
use Rattle.leases.specs.Holding.{Hearing, Hears, IsHeldBy, IsLearnedBy}
use Rattle.leases.proofs.Bits.{either_has, none_has}

-- an order doesn't change the term, nor whom the server knows to be gone
term-obeyed : (lease : LeaseState) (order : Order) (now : ℕ) → (obeyed lease order now).term ≡ lease.term
term-obeyed lease (Reign epoch) now = refl
term-obeyed lease (Beat epoch None) now = refl
term-obeyed lease (Beat epoch (Some stamp)) now =
    elim (nat_eq epoch lease.epoch && nat_le stamp now) as
    (λ v. (if v then prolonged lease stamp else lease).term ≡ lease.term) [
      | true ↦ refl
      | false ↦ refl
    ]
term-obeyed lease (Silent epoch id) now = refl
term-obeyed lease (Gone id) now = refl

known-obeyed : (lease : LeaseState) (order : Order) (now : ℕ) → (obeyed lease order now).known ≡ lease.known
known-obeyed lease (Reign epoch) now = refl
known-obeyed lease (Beat epoch None) now = refl
known-obeyed lease (Beat epoch (Some stamp)) now =
    elim (nat_eq epoch lease.epoch && nat_le stamp now) as
    (λ v. (if v then prolonged lease stamp else lease).known ≡ lease.known) [
      | true ↦ refl
      | false ↦ refl
    ]
known-obeyed lease (Silent epoch id) now = refl
known-obeyed lease (Gone id) now = refl

-- what is learned doesn't change the term, nor the end
pub term-learned : (lease : LeaseState) (gone now : ℕ) → (learned lease gone now).term ≡ lease.term
term-learned lease gone now =
    elim (holds lease now) as
    (λ v. (if v then record lease { known = bit_or lease.known gone } else lease).term ≡ lease.term) [
      | true ↦ refl
      | false ↦ refl
    ]

pub end-learned : (lease : LeaseState) (gone now : ℕ) → (learned lease gone now).end ≡ lease.end
end-learned lease gone now =
    elim (holds lease now) as
    (λ v. (if v then record lease { known = bit_or lease.known gone } else lease).end ≡ lease.end) [
      | true ↦ refl
      | false ↦ refl
    ]

-- nothing that is heard changes the term
term-hear : (lease : LeaseState) (x : Hearing) → (hear lease x).term ≡ lease.term
term-hear lease (Hears order gone now) =
    term-learned (obeyed lease order now) gone now ∙ term-obeyed lease order now

term-hears : (lease : LeaseState) (xs : List Hearing) → (hears lease xs).term ≡ lease.term
term-hears lease [] = refl
term-hears lease (x ∷ xs) = term-hears (hear lease x) xs ∙ term-hear lease x

-- a lease whose end is later than it was runs from the stamp of the beat that came
held_by_beat : (lease : LeaseState) (term now epoch stamp gone read : ℕ) (xs : List Hearing)
    → lease.term ≡ Some term
    → (nat_eq epoch lease.epoch && nat_le stamp read) ≡ true
    → now < max lease.end (end_from lease.term stamp)
    → (now < lease.end) ⊎ IsHeldBy lease term (Hears (Beat epoch (Some stamp)) gone read ∷ xs) now
held_by_beat lease term now epoch stamp gone read xs is taken held =
    let both : (nat_eq epoch lease.epoch ≡ true) × (nat_le stamp read ≡ true)
    = and_parts (nat_eq epoch lease.epoch) (nat_le stamp read) taken in
    let same : epoch ≡ lease.epoch = eqb-true epoch lease.epoch both.0 in
    let ends : end_from lease.term stamp ≡ min (stamp + term) (2 ^ 64 - 1) = ap (λ t. end_from t stamp) is in
    elim (cases_lt now lease.end) [
      | inl early ↦ inl early
      | inr late ↦ inr record {
        before = [];
        after = xs;
        epoch = epoch;
        stamp = stamp;
        gone = gone;
        read = read;
        came = refl;
        own = (let own : lease.epoch ≡ epoch = cc in own);
        shown = leb-true stamp read both.1;
        held = within lease.end (end_from lease.term stamp) (stamp + term) (2 ^ 64 - 1) now ends held late;
      }
    ]
  where
    within : (end from sum last now : ℕ) → from ≡ min sum last → now < max end from → end ≤ now → now < sum
    within end from sum last now is held late = omega arith

held_by_order : (lease : LeaseState) (term now : ℕ) (order : Order) (gone read : ℕ) (xs : List Hearing)
    → lease.term ≡ Some term
    → now < (obeyed lease order read).end
    → (now < lease.end) ⊎ IsHeldBy lease term (Hears order gone read ∷ xs) now
held_by_order lease term now (Reign epoch) gone read xs is held = inl held
held_by_order lease term now (Beat epoch None) gone read xs is held = inl held
held_by_order lease term now (Beat epoch (Some stamp)) gone read xs is held =
    elim (cases_Bool (nat_eq epoch lease.epoch && nat_le stamp read)) [
      | inl taken ↦ held_by_beat lease term now epoch stamp gone read xs is taken
          (let end = rw taken at held in end)
      | inr left ↦ inl (rw left at held)
    ]
held_by_order lease term now (Silent epoch id) gone read xs is held = inl held
held_by_order lease term now (Gone id) gone read xs is held = inl held

held_by_first : (lease : LeaseState) (term now : ℕ) (x : Hearing) (xs : List Hearing)
    → lease.term ≡ Some term
    → now < (hear lease x).end
    → (now < lease.end) ⊎ IsHeldBy lease term (x ∷ xs) now
held_by_first lease term now (Hears order gone read) xs is held =
    let same : (learned (obeyed lease order read) gone read).end ≡ (obeyed lease order read).end
    = end-learned (obeyed lease order read) gone read in
    let before : now < (obeyed lease order read).end = omega arith in
    held_by_order lease term now order gone read xs is before

-- the same of all that was heard
held_by_one : (xs : List Hearing) (lease : LeaseState) (term now : ℕ)
    → lease.term ≡ Some term
    → now < (hears lease xs).end
    → (now < lease.end) ⊎ IsHeldBy lease term xs now
held_by_one [] lease term now is held = inl held
held_by_one (x ∷ xs) lease term now is held =
    elim (held_by_one xs (hear lease x) term now (term-hear lease x ∙ is) held) [
      | inl early ↦ held_by_first lease term now x xs is early
      | inr by ↦ inr record {
        before = x ∷ by.before;
        after = by.after;
        epoch = by.epoch;
        stamp = by.stamp;
        gone = by.gone;
        read = by.read;
        came = ap (λ ys. x ∷ ys) by.came;
        own = by.own;
        shown = by.shown;
        held = by.held;
      }
    ]

-- and of a server that has just started
pub held_by_a_beat : (term : ℕ) (xs : List Hearing) (now : ℕ)
    → holds (hears (unheld (Some term)) xs) now ≡ true
    → IsHeldBy (unheld (Some term)) term xs now
held_by_a_beat term xs now held =
    elim (held_by_one xs (unheld (Some term)) term now refl (ended xs held)) [
      | inl early ↦ absurd (let no : ⊥ = omega arith in no)
      | inr by ↦ by
    ]
  where
    ended : (xs : List Hearing) → holds (hears (unheld (Some term)) xs) now ≡ true
        → now < (hears (unheld (Some term)) xs).end
    ended xs held = ltb-true now (hears (unheld (Some term)) xs).end
        (let before = rw (term-hears (unheld (Some term)) xs) at held in before)

-- whom a server knows to be gone, it knew before or learned while its lease held
learned_at_first : (lease : LeaseState) (id : ℕ) (x : Hearing) (xs : List Hearing)
    → has (hear lease x).known id ≡ true
    → (has lease.known id ≡ true) ⊎ IsLearnedBy lease (x ∷ xs) id
learned_at_first lease id (Hears order gone read) xs named =
    by_lease (holds (obeyed lease order read) read) lease id order gone read xs refl named
  where
    before : (lease : LeaseState) (id : ℕ) (order : Order) (read : ℕ)
        → has (obeyed lease order read).known id ≡ true
        → has lease.known id ≡ true
    before lease id order read named = sym (ap (λ s. has s id) (known-obeyed lease order read)) ∙ named

    by_lease : (held : Bool) (lease : LeaseState) (id : ℕ) (order : Order) (gone read : ℕ) (xs : List Hearing)
        → holds (obeyed lease order read) read ≡ held
        → has (if held then record (obeyed lease order read) { known = bit_or (obeyed lease order read).known gone }
        else obeyed lease order read).known id ≡ true
        → (has lease.known id ≡ true) ⊎ IsLearnedBy lease (Hears order gone read ∷ xs) id
    by_lease true lease id order gone read xs held named =
        elim (either_has (obeyed lease order read).known gone id named) [
          | inl early ↦ inl (before lease id order read early)
          | inr new ↦ inr record {
            before = [];
            after = xs;
            order = order;
            gone = gone;
            read = read;
            came = refl;
            named = new;
            held = held;
          }
        ]
    by_lease false lease id order gone read xs lapsed named = inl (before lease id order read named)

learned_at_one : (xs : List Hearing) (lease : LeaseState) (id : ℕ)
    → has (hears lease xs).known id ≡ true
    → (has lease.known id ≡ true) ⊎ IsLearnedBy lease xs id
learned_at_one [] lease id named = inl named
learned_at_one (x ∷ xs) lease id named =
    elim (learned_at_one xs (hear lease x) id named) [
      | inl early ↦ learned_at_first lease id x xs early
      | inr by ↦ inr record {
        before = x ∷ by.before;
        after = by.after;
        order = by.order;
        gone = by.gone;
        read = by.read;
        came = ap (λ ys. x ∷ ys) by.came;
        named = by.named;
        held = by.held;
      }
    ]

pub learned_while_held : (term : Option ℕ) (xs : List Hearing) (id : ℕ)
    → has (hears (unheld term) xs).known id ≡ true
    → IsLearnedBy (unheld term) xs id
learned_while_held term xs id named =
    elim (learned_at_one xs (unheld term) id named) [
      | inl early ↦ absurd (none_has id early)
      | inr by ↦ by
    ]
