-- Numbers in lines: a field is read as a number exactly if it is how the number is written.
use Rattle.std.proofs.Common.{◌≡◌, ℕ, zero, suc, ◌^◌, ◌<◌, ◌≤◌, true, false, List, [], ◌∷◌, length, get_or, Option}
use Rattle.std.proofs.Common.{None, Some, refl, ap, sym, ◌∙◌, arith, nat_le, nat_lt, cond, lit<, inl, inr}
use Rattle.std.specs.Prelude.{◌==◌, ◌&&◌, not, decimal, option_and_then}
use Rattle.std.specs.Char.{is_ascii_digit}
use Rattle.std.specs.List.{list_all}
use Rattle.std.specs.Str.Parse.{AllDigits, digits_value}
use Rattle.std.proofs.lemmas.Bool.{cases_Bool, and_parts, and_from, leb-true, ltb-true, le-leb, lt-ltb, eq-eqb}
use Rattle.std.proofs.lemmas.Bool.{not-true, ne_eqb, not_from_false}
use Rattle.std.proofs.lemmas.Bool.Decides.{nat_tests}
use Rattle.std.proofs.lemmas.Fmt.{decimal_is_IsNumeral, decimal-digits_value, first_decimal, decimal_digit}
use Rattle.std.proofs.lemmas.Option.{cond_some}
use Rattle.std.proofs.lemmas.Str.Parse.{tells_digits, numerals_by_value, digit_from_value}
use Rattle.std.proofs.lemmas.Str.{digit_value_digit}
use Rattle.table.specs.Numbers.{number_of}
use Rattle.schedules.specs.Splits.{space}
use Rattle.schedules.specs.Numbers.{has_leading_zero, number_in}

-- digits, told by a test or one by one
all_digits : (ds : List ℕ) → list_all is_ascii_digit ds ≡ true → AllDigits 10 ds
all_digits [] h = tt
all_digits (c ∷ cs) h =
    let parts = and_parts (is_ascii_digit c) (list_all is_ascii_digit cs) h in
    let range = and_parts (nat_le 48 c) (nat_le c 57) parts.0 in
    let low = leb-true 48 c range.0 in
    let high = leb-true c 57 range.1 in
    (omega (arith, digit_value_digit c (low, high)), all_digits cs parts.1)

are_digits : (ds : List ℕ) → AllDigits 10 ds → list_all is_ascii_digit ds ≡ true
are_digits [] h = refl
are_digits (c ∷ cs) h =
    let range = digit_from_value c h.0 in
    and_from (is_ascii_digit c) (list_all is_ascii_digit cs)
    (and_from _ _ (le-leb 48 c range.0) (le-leb c 57 range.1)) (are_digits cs h.1)

-- a field that is read as a number is how the number is written
pub number_spelled : (low high : ℕ) (field : List ℕ) (n : ℕ)
    → high ≤ 2 ^ 64
    → number_in low high field ≡ Some n
    → (low ≤ n) × (n < high) × (field ≡ decimal n)
number_spelled low high [] n fits h = cc
number_spelled low high (c ∷ cs) n fits h = by_number (number_of high (c ∷ cs)) refl h
  where
    by_value : (v : ℕ)
        → (list_all is_ascii_digit (c ∷ cs) && nat_lt (digits_value 10 (c ∷ cs)) high ≡ true)
        × (digits_value 10 (c ∷ cs) ≡ v)
        → (nat_le low v && not (has_leading_zero (c ∷ cs)) ≡ true) × (v ≡ n)
        → (low ≤ n) × (n < high) × (c ∷ cs ≡ decimal n)
    by_value v (whole, is) (fitting, same) =
        let digits = and_parts (list_all is_ascii_digit (c ∷ cs)) (nat_lt (digits_value 10 (c ∷ cs)) high) whole in
        let range = and_parts (nat_le low v) (not (has_leading_zero (c ∷ cs))) fitting in
        let under = ltb-true (digits_value 10 (c ∷ cs)) high digits.1 in
        let over = leb-true low v range.0 in
        let no_zero : has_leading_zero (c ∷ cs) ≡ false = not-true _ range.1 in
        let lead : c ≡ 48 → length (c ∷ cs) ≡ 1 = λ e. elim (cases_Bool (nat_lt 0 (length cs))) [
          | inl more ↦ absurd (let zero : has_leading_zero (c ∷ cs) ≡ true = and_from (c == 48)
              (nat_lt 0 (length cs)) (eq-eqb c 48 e) more in cc)
          | inr none ↦ grind (arith, nat_tests, none)
        ] in
        let text =
        decimal-digits_value (numerals_by_value (AllDigits 10) tells_digits) (c ∷ cs) (all_digits (c ∷ cs) digits.0)
        (omega arith) lead (omega arith) in
        let value : digits_value 10 (c ∷ cs) ≡ n = is ∙ same in
        (omega arith, omega arith, sym text ∙ ap decimal value)

    by_number : (o : Option ℕ)
        → number_of high (c ∷ cs) ≡ o
        → option_and_then (λ m. cond (nat_le low m && not (has_leading_zero (c ∷ cs))) (Some m) None) o ≡ Some n
        → (low ≤ n) × (n < high) × (c ∷ cs ≡ decimal n)
    by_number None is e = cc
    by_number (Some v) is e = by_value v (cond_some _ _ v is) (cond_some _ v n e)

number_of_digits : (high n : ℕ) (ds : List ℕ)
    → 0 < length ds
    → list_all is_ascii_digit ds ≡ true
    → digits_value 10 ds ≡ n
    → n < high
    → number_of high ds ≡ Some n
number_of_digits high n [] some digits value under = absurd (omega arith)
number_of_digits high n (c ∷ cs) some digits value under = rw (value, digits, lt-ltb n high under) refl

-- how a number is written has no zero in front of other digits
no_leading_zero : (n : ℕ) → n < 2 ^ 64 → has_leading_zero (decimal n) ≡ false
no_leading_zero zero small = let e = decimal_digit 0 (omega arith) in rw e refl
no_leading_zero (suc n) small = by_digits (decimal (suc n)) (first_decimal (suc n) (omega arith) small)
  where
    by_digits : (ds : List ℕ) → 48 < get_or ds 0 0 → has_leading_zero ds ≡ false
    by_digits [] h = refl
    by_digits (c ∷ cs) h = rw (ne_eqb c 48 (λ e. omega arith)) refl

-- how a number is written is read as it
pub number_read : (low high n : ℕ) → high ≤ 2 ^ 64 → low ≤ n → n < high → number_in low high (decimal n) ≡ Some n
number_read low high n fits over under =
    let small : n < 2 ^ 64 = omega arith in
    let (numeral, value) = decimal_is_IsNumeral n small in
    let found = number_of_digits high n (decimal n) numeral.0 (are_digits (decimal n) numeral.1) value under in
    rw (found, le-leb low n over, no_leading_zero n small) refl

-- and has neither a space nor an LF
free_digits : (byte : ℕ) (ds : List ℕ) → byte < 48 → AllDigits 10 ds → list_all (λ b. not (b == byte)) ds ≡ true
free_digits byte [] low h = refl
free_digits byte (c ∷ cs) low h =
    let range = digit_from_value c h.0 in
    and_from (not (c == byte)) (list_all (λ b. not (b == byte)) cs)
    (not_from_false _ (ne_eqb c byte (λ e. omega arith))) (free_digits byte cs low h.1)

-- no space stands in how a number is written
pub no_space_in_number : (n : ℕ) → n < 2 ^ 64 → list_all (λ b. not (b == space)) (decimal n) ≡ true
no_space_in_number n small = free_digits space (decimal n) (lit< tt) (decimal_is_IsNumeral n small).0.1
