-- What events add to lists, with one event more.
use Rattle.std.proofs.Common.{◌≡◌, ℕ, Bool, true, false, cond, List, [], ◌∷◌, ◌++◌, refl, ap, sym, ◌∙◌, append_assoc}
use Rattle.std.specs.Prelude.{◌||◌}
use Rattle.std.proofs.lemmas.Bool.{or_parts, false≢true}
use Rattle.std.proofs.lemmas.List.{append-nil}
use Rattle.local_histories.specs.Events.{Event}
use Rattle.local_histories.specs.Objects.{gathered, is_halt, has_halted}
use Rattle.local_histories.specs.Standing.{before_halt, takes_input, given_to}

-- what one event more adds
pub gathered_more : {X : Type 0} (adds : Event → List X) (es : List Event) (e : Event)
    → gathered adds (es ++ e ∷ []) ≡ gathered adds es ++ adds e
gathered_more adds [] e = append-nil (adds e)
gathered_more adds (x ∷ xs) e = ap (λ ys. adds x ++ ys) (gathered_more adds xs e)
    ∙ sym (append_assoc (adds x) (gathered adds xs) (adds e))

-- nothing
pub gathered_same : {X : Type 0} (adds : Event → List X) (es : List Event) (e : Event)
    → adds e ≡ []
    → gathered adds (es ++ e ∷ []) ≡ gathered adds es
gathered_same adds es e nothing = gathered_more adds es e ∙ ap (λ ys. gathered adds es ++ ys) nothing
    ∙ append-nil (gathered adds es)

or_false : (a : Bool) → (a || false) ≡ a
or_false true = refl
or_false false = refl

or_assoc : (a b c : Bool) → (a || (b || c)) ≡ ((a || b) || c)
or_assoc true b c = refl
or_assoc false b c = refl

-- a server has halted, or it halts now
pub halted_more : (i : ℕ) (es : List Event) (e : Event)
    → has_halted i (es ++ e ∷ []) ≡ (has_halted i es || is_halt i e)
halted_more i [] e = or_false (is_halt i e)
halted_more i (x ∷ xs) e = ap (λ b. is_halt i x || b) (halted_more i xs e)
    ∙ or_assoc (is_halt i x) (has_halted i xs) (is_halt i e)

-- it doesn't
pub halted_same : (i : ℕ) (es : List Event) (e : Event)
    → is_halt i e ≡ false
    → has_halted i (es ++ e ∷ []) ≡ has_halted i es
halted_same i es e stays = halted_more i es e ∙ ap (λ b. has_halted i es || b) stays ∙ or_false (has_halted i es)

-- a server that goes on is given what it takes
pub given_more : (i : ℕ) (es : List Event) (e : Event)
    → has_halted i es ≡ false
    → is_halt i e ≡ false
    → given_to i (es ++ e ∷ []) ≡ given_to i es ++ takes_input i e
given_more i [] e going stays = ap (λ b. gathered (takes_input i) (cond b [] (e ∷ []))) stays
    ∙ append-nil (takes_input i e)
given_more i (x ∷ xs) e going stays =
    let parts = or_parts (is_halt i x) (has_halted i xs) going in
    ap (λ b. gathered (takes_input i) (cond b [] (x ∷ before_halt i (xs ++ e ∷ [])))) parts.0
    ∙ ap (λ ys. takes_input i x ++ ys) (given_more i xs e parts.1 stays)
    ∙ sym (append_assoc (takes_input i x) (given_to i xs) (takes_input i e))
    ∙ sym (ap (λ b. gathered (takes_input i) (cond b [] (x ∷ before_halt i xs)) ++ takes_input i e) parts.0)

-- one that has halted is given nothing
pub given_no_more : (i : ℕ) (es : List Event) (e : Event)
    → has_halted i es ≡ true
    → given_to i (es ++ e ∷ []) ≡ given_to i es
given_no_more i [] e halted = absurd (false≢true halted)
given_no_more i (x ∷ xs) e halted = by (is_halt i x) halted (given_no_more i xs e)
  where
    by : (b : Bool) → (b || has_halted i xs) ≡ true
        → (has_halted i xs ≡ true → given_to i (xs ++ e ∷ []) ≡ given_to i xs)
        → gathered (takes_input i) (cond b [] (x ∷ before_halt i (xs ++ e ∷ [])))
        ≡ gathered (takes_input i) (cond b [] (x ∷ before_halt i xs))
    by true h f = refl
    by false h f = ap (λ ys. takes_input i x ++ ys) (f h)

-- nor is one that takes nothing
pub given_same : (i : ℕ) (es : List Event) (e : Event)
    → takes_input i e ≡ []
    → given_to i (es ++ e ∷ []) ≡ given_to i es
given_same i [] e nothing = by (is_halt i e)
  where
    by : (b : Bool) → gathered (takes_input i) (cond b [] (e ∷ [])) ≡ []
    by true = refl
    by false = append-nil (takes_input i e) ∙ nothing
given_same i (x ∷ xs) e nothing = by (is_halt i x) (given_same i xs e nothing)
  where
    by : (b : Bool) → given_to i (xs ++ e ∷ []) ≡ given_to i xs
        → gathered (takes_input i) (cond b [] (x ∷ before_halt i (xs ++ e ∷ [])))
        ≡ gathered (takes_input i) (cond b [] (x ∷ before_halt i xs))
    by true f = refl
    by false f = ap (λ ys. takes_input i x ++ ys) f
