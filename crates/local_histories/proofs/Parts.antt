-- Lists without some of their elements, and lists in two parts.
use Rattle.std.proofs.Common.{◌≡◌, ℕ, ◌≤◌, Bool, true, false, List, [], ◌∷◌, ◌++◌, length, refl, arith}
use Rattle.std.proofs.Common.{ap, sym, ◌∙◌, subst, inl, inr, ◌⊎◌, append_assoc}
use Rattle.std.specs.Prelude.{◌||◌}
use Rattle.rail.specs.NotedReplies.{NotedReply}
use Rattle.rail.specs.Turns.{IsLeft}
use Rattle.local_histories.specs.Events.{Event}
use Rattle.local_histories.specs.Objects.{gathered, is_halt, has_halted}
use Rattle.local_histories.specs.Standing.{replies_in}

-- the second list is the first one, in order, without some
abbrev pub Sub : {X : Type 0} → List X → List X → Type 0
Sub [] ys = ys ≡ []
Sub {X} (x ∷ xs) ys = Sub xs ys ⊎ ((rest : List X) × (ys ≡ x ∷ rest) × Sub xs rest)

pub sub_left : {X : Type 0} (may : X → Type 0) (xs ys : List X) → IsLeft may xs ys → Sub xs ys
sub_left may [] ys h = h
sub_left may (x ∷ xs) ys (inl h) = inl (sub_left may xs ys h.1)
sub_left may (x ∷ xs) ys (inr h) = inr (h.0, h.1, sub_left may xs h.0 h.2)

pub sub_nil : {X : Type 0} (xs : List X) → Sub xs []
sub_nil [] = refl
sub_nil (x ∷ xs) = inl (sub_nil xs)

-- of two lists, one after the other
pub sub_both : {X : Type 0} (xs us ys vs : List X) → Sub xs ys → Sub us vs → Sub (xs ++ us) (ys ++ vs)
sub_both [] us ys vs h g = subst (λ zs. Sub us (zs ++ vs)) (sym h) g
sub_both (x ∷ xs) us ys vs (inl h) g = inl (sub_both xs us ys vs h g)
sub_both (x ∷ xs) us ys vs (inr h) g =
    inr (h.0 ++ vs, ap (λ zs. zs ++ vs) h.1, sub_both xs us h.0 vs h.2 g)

-- of a beginning
pub sub_front : {X : Type 0} (xs ys zs : List X) → Sub xs (ys ++ zs) → Sub xs ys
sub_front xs [] zs h = sub_nil xs
sub_front [] (y ∷ ys) zs h = absurd cc
sub_front (x ∷ xs) (y ∷ ys) zs (inl h) = inl (sub_front xs (y ∷ ys) zs h)
sub_front (x ∷ xs) (y ∷ ys) zs (inr h) =
    let same : y ∷ (ys ++ zs) ≡ x ∷ h.0 = h.1 in
    let head : y ≡ x = cc in
    let tail : ys ++ zs ≡ h.0 = cc in
    inr (ys, ap (λ u. u ∷ ys) head, sub_front xs ys zs (subst (λ us. Sub xs us) (sym tail) h.2))

pub sub_length : {X : Type 0} (xs ys : List X) → Sub xs ys → length ys ≤ length xs
sub_length [] ys h = (let e = ap (λ zs. length zs) h in omega (arith, e))
sub_length (x ∷ xs) ys (inl h) = (let e = sub_length xs ys h in omega (arith, e))
sub_length (x ∷ xs) ys (inr h) =
    let e = sub_length xs h.0 h.2 in
    let f = ap (λ zs. length zs) h.1 in
    omega (arith, e, f)

-- one that is as long is the same
pub sub_whole : {X : Type 0} (xs ys : List X) → Sub xs ys → length xs ≤ length ys → xs ≡ ys
sub_whole [] ys h long = sym h
sub_whole (x ∷ xs) ys (inl h) long = absurd (let e = sub_length xs ys h in omega (arith, e, long))
sub_whole (x ∷ xs) ys (inr h) long =
    let f = ap (λ zs. length zs) h.1 in
    ap (λ zs. x ∷ zs) (sub_whole xs h.0 h.2 (omega (arith, f, long))) ∙ sym h.1

pub sub_replies : (xs ys : List NotedReply) → Sub xs ys → Sub (replies_in xs) (replies_in ys)
sub_replies [] ys h = ap replies_in h
sub_replies (x ∷ xs) ys (inl h) = inl (sub_replies xs ys h)
sub_replies (x ∷ xs) ys (inr h) = inr (replies_in h.0, ap replies_in h.1, sub_replies xs h.0 h.2)

-- ---- two parts

-- where an element stands in two lists, one after the other
pub in_either : {X : Type 0} (xs ys before : List X) (e : X) (after : List X)
    → xs ++ ys ≡ before ++ e ∷ after
    → ((more : List X) × (xs ≡ before ++ e ∷ more))
    ⊎ ((mid : List X) × (before ≡ xs ++ mid) × (ys ≡ mid ++ e ∷ after))
in_either [] ys before e after is = inr (before, refl, is)
in_either (x ∷ xs) ys [] e after is =
    let head : x ≡ e = cc in
    inl (xs, ap (λ u. u ∷ xs) head)
in_either (x ∷ xs) ys (b ∷ bs) e after is =
    let head : x ≡ b = cc in
    let tail : xs ++ ys ≡ bs ++ e ∷ after = cc in
    elim (in_either xs ys bs e after tail) [
      | inl here ↦ inl (here.0, ap (λ u. u ∷ xs) head ∙ ap (λ us. b ∷ us) here.1)
      | inr there ↦ inr (there.0, ap (λ us. b ∷ us) there.1 ∙ ap (λ u. u ∷ (xs ++ there.0)) (sym head), there.2)
    ]

-- what events add, in two parts
pub gathered-append : {X : Type 0} (adds : Event → List X) (es fs : List Event)
    → gathered adds (es ++ fs) ≡ gathered adds es ++ gathered adds fs
gathered-append adds [] fs = refl
gathered-append adds (e ∷ es) fs = ap (λ xs. adds e ++ xs) (gathered-append adds es fs)
    ∙ sym (append_assoc (adds e) (gathered adds es) (gathered adds fs))

or_both : (a b c : Bool) → (a || (b || c)) ≡ ((a || b) || c)
or_both true b c = refl
or_both false b c = refl

pub halted-append : (i : ℕ) (es fs : List Event)
    → has_halted i (es ++ fs) ≡ (has_halted i es || has_halted i fs)
halted-append i [] fs = refl
halted-append i (e ∷ es) fs = ap (λ b. is_halt i e || b) (halted-append i es fs)
    ∙ or_both (is_halt i e) (has_halted i es) (has_halted i fs)
