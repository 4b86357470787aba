-- What calls came to, of calls one part after another: of each its outcome, or none yet.
use Rattle.std.proofs.Common.{◌≡◌, ◌<◌, ◌≤◌, List, [], ◌∷◌, ◌++◌, length, Option, None, Some, refl, arith, ap, sym, ◌∙◌}
use Rattle.std.proofs.Common.{append_assoc}
use Rattle.table.specs.declared.operations.Call.{Call}
use Rattle.proto.specs.Turns.{Turn, Faulty, Calls, Outcome, Replied, Refused, calls_of, fault_text, outcome_text}
use Rattle.proto.specs.Streams.{outcome_texts}
use Rattle.interleavings.specs.Served.{replies_of, unrefused, AreOutcomes}
use Rattle.interleavings.specs.Rows.{fates_of, first_known, replies_in, not_refused, AreFates}
use Rattle.interleavings.proofs.served.Outcomes.{unrefused_none}

-- there are no more outcomes than calls
pub outcomes_few : (cs : List Call) (os : List Outcome) → AreOutcomes cs os → length os ≤ length cs
outcomes_few [] [] a = omega arith
outcomes_few [] (o ∷ os) a = absurd a
outcomes_few (c ∷ cs) [] a = omega arith
outcomes_few (c ∷ cs) (Replied r ∷ os) a = let l = outcomes_few cs os a in omega (arith, l)
outcomes_few (c ∷ cs) (Refused ∷ os) a = let l = outcomes_few cs os a.1 in omega (arith, l)

-- ---- of one part

-- they are what the calls came to
pub fates_are : (cs : List Call) (os : List Outcome) → AreOutcomes cs os → AreFates cs (fates_of cs os)
fates_are [] [] a = tt
fates_are [] (o ∷ os) a = absurd a
fates_are (c ∷ cs) [] a = fates_are cs [] (none cs)
  where
    none : (cs : List Call) → AreOutcomes cs []
    none [] = tt
    none (c ∷ cs) = tt
fates_are (c ∷ cs) (Replied r ∷ os) a = fates_are cs os a
fates_are (c ∷ cs) (Refused ∷ os) a = (a.0, fates_are cs os a.1)

-- the same calls weren't refused
pub same_refused : (cs : List Call) (os : List Outcome) → not_refused cs (fates_of cs os) ≡ unrefused cs os
same_refused [] os = refl
same_refused (c ∷ cs) [] = ap (λ xs. c ∷ xs) (same_refused cs [] ∙ unrefused_none cs)
same_refused (c ∷ cs) (Replied r ∷ os) = ap (λ xs. c ∷ xs) (same_refused cs os)
same_refused (c ∷ cs) (Refused ∷ os) = same_refused cs os

-- the same replies are among them
pub same_replies : (cs : List Call) (os : List Outcome)
    → length os ≤ length cs
    → replies_in (fates_of cs os) ≡ replies_of os
same_replies [] [] h = refl
same_replies [] (o ∷ os) h = absurd (omega (arith, h))
same_replies (c ∷ cs) [] h = same_replies cs [] (omega arith)
same_replies (c ∷ cs) (Replied r ∷ os) h = ap (λ rs. r ∷ rs) (same_replies cs os (omega (arith, h)))
same_replies (c ∷ cs) (Refused ∷ os) h = same_replies cs os (omega (arith, h))

-- ---- of a part and those after it

-- these are what the calls of both came to
pub fates_more : (cs ds : List Call) (fs gs : List (Option Outcome))
    → AreFates cs fs
    → AreFates ds gs
    → AreFates (cs ++ ds) (fs ++ gs)
fates_more [] ds [] gs a b = b
fates_more [] ds (f ∷ fs) gs a b = absurd a
fates_more (c ∷ cs) ds [] gs a b = absurd a
fates_more (c ∷ cs) ds (None ∷ fs) gs a b = fates_more cs ds fs gs a b
fates_more (c ∷ cs) ds (Some (Replied r) ∷ fs) gs a b = fates_more cs ds fs gs a b
fates_more (c ∷ cs) ds (Some Refused ∷ fs) gs a b = (a.0, fates_more cs ds fs gs a.1 b)

-- of both those that weren't refused
pub refused_more : (cs ds : List Call) (fs gs : List (Option Outcome))
    → AreFates cs fs
    → not_refused (cs ++ ds) (fs ++ gs) ≡ not_refused cs fs ++ not_refused ds gs
refused_more [] ds [] gs a = refl
refused_more [] ds (f ∷ fs) gs a = absurd a
refused_more (c ∷ cs) ds [] gs a = absurd a
refused_more (c ∷ cs) ds (None ∷ fs) gs a = ap (λ xs. c ∷ xs) (refused_more cs ds fs gs a)
refused_more (c ∷ cs) ds (Some (Replied r) ∷ fs) gs a = ap (λ xs. c ∷ xs) (refused_more cs ds fs gs a)
refused_more (c ∷ cs) ds (Some Refused ∷ fs) gs a = refused_more cs ds fs gs a.1

-- and the replies of both
pub replies_more : (fs gs : List (Option Outcome)) → replies_in (fs ++ gs) ≡ replies_in fs ++ replies_in gs
replies_more [] gs = refl
replies_more (None ∷ fs) gs = replies_more fs gs
replies_more (Some (Replied r) ∷ fs) gs = ap (λ rs. r ∷ rs) (replies_more fs gs)
replies_more (Some Refused ∷ fs) gs = replies_more fs gs

-- the part's outcomes come first,
pub outcomes_first : (cs : List Call) (os : List Outcome) (gs : List (Option Outcome))
    → length os ≤ length cs
    → (rest : List Outcome) × (first_known (fates_of cs os ++ gs) ≡ os ++ rest)
outcomes_first [] [] gs h = (first_known gs, refl)
outcomes_first [] (o ∷ os) gs h = absurd (omega (arith, h))
outcomes_first (c ∷ cs) [] gs h = ([], refl)
outcomes_first (c ∷ cs) (o ∷ os) gs h =
    let f = outcomes_first cs os gs (omega (arith, h)) in (f.0, ap (λ xs. o ∷ xs) f.1)

-- with all others after them, if each of its calls has one,
pub outcomes_all : (cs : List Call) (os : List Outcome) (gs : List (Option Outcome))
    → length os ≡ length cs
    → first_known (fates_of cs os ++ gs) ≡ os ++ first_known gs
outcomes_all [] [] gs h = refl
outcomes_all [] (o ∷ os) gs h = absurd (omega (arith, h))
outcomes_all (c ∷ cs) [] gs h = absurd (omega (arith, h))
outcomes_all (c ∷ cs) (o ∷ os) gs h = ap (λ xs. o ∷ xs) (outcomes_all cs os gs (omega (arith, h)))

-- and none after them, if one of its calls has none
pub outcomes_stop : (cs : List Call) (os : List Outcome) (gs : List (Option Outcome))
    → length os < length cs
    → first_known (fates_of cs os ++ gs) ≡ os
outcomes_stop [] os gs h = absurd (omega (arith, h))
outcomes_stop (c ∷ cs) [] gs h = refl
outcomes_stop (c ∷ cs) (o ∷ os) gs h = ap (λ xs. o ∷ xs) (outcomes_stop cs os gs (omega (arith, h)))

-- the texts of turns, of whose calls all is known, and those of later ones
pub texts_joined : (ts us : List Turn) (os ps : List Outcome)
    → length os ≡ length (calls_of ts)
    → outcome_texts (ts ++ us) (os ++ ps) ≡ outcome_texts ts os ++ outcome_texts us ps
texts_joined [] us [] ps h = refl
texts_joined [] us (o ∷ os) ps h = absurd (omega (arith, h))
texts_joined (Faulty fault ∷ ts) us os ps h =
    ap (λ bytes. fault_text fault ++ bytes) (texts_joined ts us os ps h)
    ∙ sym (append_assoc (fault_text fault) (outcome_texts ts os) (outcome_texts us ps))
texts_joined (Calls call form ∷ ts) us [] ps h = absurd (omega (arith, h))
texts_joined (Calls call form ∷ ts) us (o ∷ os) ps h =
    ap (λ bytes. outcome_text form o ++ bytes) (texts_joined ts us os ps (omega (arith, h)))
    ∙ sym (append_assoc (outcome_text form o) (outcome_texts ts os) (outcome_texts us ps))
