-- What calls came to: lists of outcomes, the calls that weren't refused, and the replies.
use Rattle.std.proofs.Common.{◌≡◌, ◌+◌, ◌<◌, ◌≤◌, true, List, [], ◌∷◌, ◌++◌, length, map, refl, arith, ap}
use Rattle.table.specs.declared.operations.Call.{Call}
use Rattle.table.specs.declared.operations.Reply.{Reply}
use Rattle.proto.specs.Turns.{Outcome, Replied, Refused, is_store}
use Rattle.interleavings.specs.Served.{replies_of, unrefused, AreOutcomes}

-- ---- replies

-- a reply more
pub replies_more : (os : List Outcome) (r : Reply) → replies_of (os ++ Replied r ∷ []) ≡ replies_of os ++ r ∷ []
replies_more [] r = refl
replies_more (Replied s ∷ os) r = ap (λ rs. s ∷ rs) (replies_more os r)
replies_more (Refused ∷ os) r = replies_more os r

-- a refusal is none
pub replies_refused : (os : List Outcome) → replies_of (os ++ Refused ∷ []) ≡ replies_of os
replies_refused [] = refl
replies_refused (Replied s ∷ os) = ap (λ rs. s ∷ rs) (replies_refused os)
replies_refused (Refused ∷ os) = replies_refused os

-- ---- calls that weren't refused

pub unrefused_none : (cs : List Call) → unrefused cs [] ≡ cs
unrefused_none [] = refl
unrefused_none (c ∷ cs) = refl

-- if all is replied, all are
pub unrefused_all : (cs : List Call) (rs : List Reply) → unrefused cs (map Replied rs) ≡ cs
unrefused_all [] [] = refl
unrefused_all [] (r ∷ rs) = refl
unrefused_all (c ∷ cs) [] = refl
unrefused_all (c ∷ cs) (r ∷ rs) = ap (λ xs. c ∷ xs) (unrefused_all cs rs)

-- calls more, of which nothing is known yet
pub unrefused_more : (cs ds : List Call) (os : List Outcome)
    → length os ≤ length cs
    → unrefused (cs ++ ds) os ≡ unrefused cs os ++ ds
unrefused_more [] ds [] h = unrefused_none ds
unrefused_more [] ds (o ∷ os) h = absurd (omega (arith, h))
unrefused_more (c ∷ cs) ds [] h = refl
unrefused_more (c ∷ cs) ds (Replied r ∷ os) h = ap (λ xs. c ∷ xs) (unrefused_more cs ds os (omega (arith, h)))
unrefused_more (c ∷ cs) ds (Refused ∷ os) h = unrefused_more cs ds os (omega (arith, h))

-- a reply changes nothing,
pub unrefused_replied : (cs : List Call) (os : List Outcome) (r : Reply)
    → unrefused cs (os ++ Replied r ∷ []) ≡ unrefused cs os
unrefused_replied [] os r = refl
unrefused_replied (c ∷ cs) [] r = ap (λ xs. c ∷ xs) (unrefused_none cs)
unrefused_replied (c ∷ cs) (Replied s ∷ os) r = ap (λ xs. c ∷ xs) (unrefused_replied cs os r)
unrefused_replied (c ∷ cs) (Refused ∷ os) r = unrefused_replied cs os r

-- and a refusal takes away the call that is refused
pub unrefused_last : (cs : List Call) (os : List Outcome) (call : Call)
    → length os ≡ length cs
    → unrefused (cs ++ call ∷ []) (os ++ Refused ∷ []) ≡ unrefused cs os
unrefused_last [] [] call h = refl
unrefused_last [] (o ∷ os) call h = absurd (omega (arith, h))
unrefused_last (c ∷ cs) [] call h = absurd (omega (arith, h))
unrefused_last (c ∷ cs) (Replied r ∷ os) call h = ap (λ xs. c ∷ xs) (unrefused_last cs os call (omega (arith, h)))
unrefused_last (c ∷ cs) (Refused ∷ os) call h = unrefused_last cs os call (omega (arith, h))

-- how many there are
pub unrefused_length : (cs : List Call) (os : List Outcome)
    → length os ≤ length cs
    → length (unrefused cs os) + length os ≡ length cs + length (replies_of os)
unrefused_length [] [] h = omega arith
unrefused_length [] (o ∷ os) h = absurd (omega (arith, h))
unrefused_length (c ∷ cs) [] h = omega arith
unrefused_length (c ∷ cs) (Replied r ∷ os) h =
    let l = unrefused_length cs os (omega (arith, h)) in omega (arith, l)
unrefused_length (c ∷ cs) (Refused ∷ os) h =
    let l = unrefused_length cs os (omega (arith, h)) in omega (arith, l)

-- ---- the first calls have these outcomes

pub outcomes_none : (cs : List Call) → AreOutcomes cs []
outcomes_none [] = tt
outcomes_none (c ∷ cs) = tt

-- calls more
pub outcomes_more : (cs ds : List Call) (os : List Outcome) → AreOutcomes cs os → AreOutcomes (cs ++ ds) os
outcomes_more [] ds [] a = outcomes_none ds
outcomes_more [] ds (o ∷ os) a = absurd a
outcomes_more (c ∷ cs) ds [] a = tt
outcomes_more (c ∷ cs) ds (Replied r ∷ os) a = outcomes_more cs ds os a
outcomes_more (c ∷ cs) ds (Refused ∷ os) a = (a.0, outcomes_more cs ds os a.1)

-- a reply more
pub outcomes_replied : (cs : List Call) (os : List Outcome) (r : Reply)
    → length os < length cs
    → AreOutcomes cs os
    → AreOutcomes cs (os ++ Replied r ∷ [])
outcomes_replied [] os r h a = absurd (omega (arith, h))
outcomes_replied (c ∷ cs) [] r h a = outcomes_none cs
outcomes_replied (c ∷ cs) (Replied s ∷ os) r h a = outcomes_replied cs os r (omega (arith, h)) a
outcomes_replied (c ∷ cs) (Refused ∷ os) r h a = (a.0, outcomes_replied cs os r (omega (arith, h)) a.1)

-- a refusal more, of a store
pub outcomes_refused : (cs : List Call) (os : List Outcome) (call : Call)
    → length os ≡ length cs
    → is_store call.op ≡ true
    → AreOutcomes (cs ++ call ∷ []) os
    → AreOutcomes (cs ++ call ∷ []) (os ++ Refused ∷ [])
outcomes_refused [] [] call h store a = (store, tt)
outcomes_refused [] (o ∷ os) call h store a = absurd (omega (arith, h))
outcomes_refused (c ∷ cs) [] call h store a = absurd (omega (arith, h))
outcomes_refused (c ∷ cs) (Replied r ∷ os) call h store a =
    outcomes_refused cs os call (omega (arith, h)) store a
outcomes_refused (c ∷ cs) (Refused ∷ os) call h store a =
    (a.0, outcomes_refused cs os call (omega (arith, h)) store a.1)
