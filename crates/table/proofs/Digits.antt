-- A number read digit by digit.
use Rattle.std.proofs.Common.{◌≡◌, ℕ, ◌+◌, ◌*◌, ◌<◌, ◌≤◌, Bool, true, false, cond, ◌&&◌, List, [], ◌∷◌, length, Option}
use Rattle.std.proofs.Common.{None, Some, refl, sym, arith, nat_lt, get_or, drop, drop-cons}
use Rattle.std.specs.Char.{digit_value, is_ascii_digit}
use Rattle.std.specs.List.{list_all}
use Rattle.std.specs.Str.Parse.{digits_value_after}
use Rattle.std.specs.Option.{option_and_then}
use Rattle.std.proofs.lemmas.Bool.Decides.{nat_tests}
use Rattle.std.proofs.lemmas.List.{drop_all}
use Rattle.table.specs.Numbers.{number_of, with_digit}

-- the number whose first digits gave n, and whose further bytes these are
abbrev pub read_on : ℕ → ℕ → List ℕ → Option ℕ
read_on bound n [] = Some n
read_on bound n (c ∷ cs) = option_and_then (λ m. read_on bound m cs) (with_digit bound n c)

-- what the digits give, if they are below the bound
abbrev below : ℕ → ℕ → List ℕ → Option ℕ
below bound n cs = cond (list_all is_ascii_digit cs && nat_lt (digits_value_after 10 n cs) bound)
    (Some (digits_value_after 10 n cs)) None

grows : (n : ℕ) (cs : List ℕ) → n ≤ digits_value_after 10 n cs
grows n [] = omega arith
grows n (c ∷ cs) = omega (arith, grows (n * 10 + digit_value c) cs)

none_of_false : (b : Bool) (n : ℕ) → cond (b && false) (Some n) None ≡ None
none_of_false true n = refl
none_of_false false n = refl

too_large : (bound n : ℕ) (cs : List ℕ) → nat_lt n bound ≡ false → below bound n cs ≡ None
too_large bound n cs h =
    let over : nat_lt (digits_value_after 10 n cs) bound ≡ false = grind (arith, nat_tests, grows n cs, h) in
    rw over (none_of_false (list_all is_ascii_digit cs) _)

by_digit : (bound n c : ℕ) (cs : List ℕ) (d : Bool) (b : Bool)
    → nat_lt (n * 10 + digit_value c) bound ≡ b
    → (nat_lt (n * 10 + digit_value c) bound ≡ true → read_on bound (n * 10 + digit_value c) cs
    ≡ below bound (n * 10 + digit_value c) cs)
    → option_and_then (λ m. read_on bound m cs) (cond (d && b) (Some (n * 10 + digit_value c)) None)
    ≡ cond ((d && list_all is_ascii_digit cs) && nat_lt (digits_value_after 10 (n * 10 + digit_value c) cs) bound)
    (Some (digits_value_after 10 (n * 10 + digit_value c) cs)) None
by_digit bound n c cs false b e h = refl
by_digit bound n c cs true true e h = h e
by_digit bound n c cs true false e h = sym (too_large bound (n * 10 + digit_value c) cs e)

read_on_is : (bound n : ℕ) (cs : List ℕ) → nat_lt n bound ≡ true → read_on bound n cs ≡ below bound n cs
read_on_is bound n [] h = rw h refl
read_on_is bound n (c ∷ cs) h = by_digit bound n c cs (is_ascii_digit c) (nat_lt (n * 10 + digit_value c) bound) refl
    (λ e. read_on_is bound (n * 10 + digit_value c) cs e)

-- a number is read from its front
pub number_from_front : (bound : ℕ) (field : List ℕ)
    → 0 < length field
    → 0 < bound
    → read_on bound 0 field ≡ number_of bound field
number_from_front bound [] some positive = absurd (omega arith)
number_from_front bound (c ∷ cs) some positive = read_on_is bound 0 (c ∷ cs) (grind (arith, nat_tests))

-- if a digit can't be added, there is no number
pub read_on-stop : (bound n : ℕ) (cs : List ℕ) (i : ℕ)
    → i < length cs
    → with_digit bound n (get_or cs i 0) ≡ None
    → read_on bound n (drop i cs) ≡ None
read_on-stop bound n cs i below none = rw (drop-cons cs i 0) (rw none refl)

-- at the end, the number stands
pub read_on-end : (bound n : ℕ) (cs : List ℕ) (i : ℕ) → length cs ≤ i → read_on bound n (drop i cs) ≡ Some n
read_on-end bound n cs i past = rw (drop_all i cs past) refl
