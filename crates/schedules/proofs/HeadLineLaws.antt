-- The two lines that open a schedule: each is read as what it is the line of, and as nothing else.
use Rattle.std.proofs.Common.{◌≡◌, ℕ, ◌^◌, ◌≤◌, inl, inr, Bool, true, false, cond, List, [], ◌∷◌, ◌++◌, length, map}
use Rattle.std.proofs.Common.{None, Some, refl, ap, sym, ◌∙◌, subst, arith, nat_le, nat_lt, lit≤, suc}
use Rattle.std.specs.Prelude.{◌&&◌, IsTrue, codes, decimal}
use Rattle.std.specs.List.{list_all}
use Rattle.std.specs.Str.{bytes_eq}
use Rattle.std.specs.Str.Parse.{AllDigits}
use Rattle.std.proofs.lemmas.Bool.{and_parts, and_from, ltb-true, lt-ltb, leb-true, le-leb, not_from_false, ne_eqb}
use Rattle.std.proofs.lemmas.Fmt.{decimal_is_IsNumeral}
use Rattle.std.proofs.lemmas.Option.{same_Some}
use Rattle.std.proofs.lemmas.Slice.Eq.{bytes_eq-Decides}
use Rattle.std.proofs.lemmas.Str.Parse.{digit_from_value}
use Rattle.proto.specs.Grammar.{is_field}
use Rattle.proto.proofs.GrammarFields.{fields_of_joined, joined_fields, some_field}
use Rattle.schedules.specs.Splits.{space, lf, split_once, fields_of}
use Rattle.schedules.specs.Numbers.{number_in}
use Rattle.schedules.specs.HeadLines.{servers_line, homes_line, numbers_below}
use Rattle.schedules.specs.SpelledSchedules.{words, IsServersLine, IsHomesLine}
use Rattle.schedules.proofs.NumberLaws.{number_read, number_spelled}
use Rattle.schedules.proofs.SplitLaws.{split_spelled}
use Rattle.schedules.proofs.EventLineLaws.{then_parts, by_word, parts_are}

-- `servers N` is read as its number
pub servers_read : (count : ℕ) (line : List ℕ) → IsServersLine count line → servers_line line ≡ Some count
servers_read count line h = rw (h.2, number_read 1 17 count (lit≤ tt) h.0 (omega (arith, h.1))) refl

-- what is read as a number of servers is a line `servers N`
pub servers_spelled : (line : List ℕ) (count : ℕ) → servers_line line ≡ Some count → IsServersLine count line
servers_spelled line count h =
    let c = then_parts _ (split_once space line) count h in
    elim (by_word c.0.0 (codes "servers") (number_in 1 17 c.0.1) None count c.2) [
      | inl (same, e) ↦
          let (some, few, field) = number_spelled 1 17 c.0.1 count (lit≤ tt) e in (
            some,
            omega arith,
            parts_are line c.0.0 c.0.1 (codes "servers") (decimal count)
                (split_spelled space line c.0.0 c.0.1 c.1) same field,
          )
      | inr e ↦ cc
    ]

-- how a number is written is a field
digits_field : (ds : List ℕ) → AllDigits 10 ds → IsTrue (is_field ds)
digits_field [] h = refl
digits_field (c ∷ cs) h =
    let range = digit_from_value c h.0 in
    and_from _ (is_field cs) (and_from _ _ (not_from_false _ (ne_eqb c space (λ e. omega arith)))
    (not_from_false _ (ne_eqb c lf (λ e. omega arith)))) (digits_field cs h.1)

numbers_fields : (high : ℕ) (ns : List ℕ)
    → high ≤ 2 ^ 64
    → IsTrue (list_all (λ n. nat_lt n high) ns)
    → IsTrue (list_all is_field (map decimal ns))
numbers_fields high [] fits below = refl
numbers_fields high (n ∷ ns) fits below =
    let parts = and_parts (nat_lt n high) (list_all (λ n. nat_lt n high) ns) below in
    let low = ltb-true n high parts.0 in
    and_from _ _ (digits_field (decimal n) (decimal_is_IsNumeral n (omega arith)).0.1)
    (numbers_fields high ns fits parts.1)

-- numbers are read, each as it is written
numbers_read : (high : ℕ) (ns : List ℕ)
    → high ≤ 2 ^ 64
    → IsTrue (list_all (λ n. nat_lt n high) ns)
    → numbers_below high (map decimal ns) ≡ Some ns
numbers_read high [] fits below = refl
numbers_read high (n ∷ ns) fits below =
    let parts = and_parts (nat_lt n high) (list_all (λ n. nat_lt n high) ns) below in
    rw (number_read 0 high n fits (omega arith) (ltb-true n high parts.0), numbers_read high ns fits parts.1) refl

both : (x y : List ℕ) (xs ys : List (List ℕ)) → x ≡ y → xs ≡ ys → x ∷ xs ≡ y ∷ ys
both x y xs ys first others = rw (first, others) refl

numbers_spelled : (high : ℕ) (fields : List (List ℕ)) (ns : List ℕ)
    → high ≤ 2 ^ 64
    → numbers_below high fields ≡ Some ns
    → (fields ≡ map decimal ns) × IsTrue (list_all (λ n. nat_lt n high) ns)
numbers_spelled high [] ns fits h =
    subst (λ ns. ([] ≡ map decimal ns) × IsTrue (list_all (λ n. nat_lt n high) ns)) (same_Some [] ns h) (refl, refl)
numbers_spelled high (field ∷ fields) ns fits h =
    let n = then_parts _ (number_in 0 high field) ns h in
    let more = then_parts _ (numbers_below high fields) ns n.2 in
    let (over, under, is) = number_spelled 0 high field n.0 fits n.1 in
    let (others, below) = numbers_spelled high fields more.0 fits more.1 in
    subst (λ ns. (field ∷ fields ≡ map decimal ns) × IsTrue (list_all (λ n. nat_lt n high) ns))
    (same_Some (n.0 ∷ more.0) ns more.2)
    (both field (decimal n.0) fields (map decimal more.0) is others, and_from _ _ (lt-ltb n.0 high under) below)

length_numbers : (ns : List ℕ) → length (map decimal ns) ≡ length ns
length_numbers [] = refl
length_numbers (n ∷ ns) = ap suc (length_numbers ns)

homes_found : (count : ℕ) (homes : List ℕ)
    → count ≤ 2 ^ 64
    → 1 ≤ length homes
    → length homes ≤ 64
    → IsTrue (list_all (λ home. nat_lt home count) homes)
    → homes_line count (words (codes "homes" ∷ map decimal homes)) ≡ Some homes
homes_found count [] fits some few each = absurd (omega arith)
homes_found count (home ∷ homes) fits some few each =
    let fields : fields_of (words (map decimal (home ∷ homes))) ≡ map decimal (home ∷ homes) =
    fields_of_joined (decimal home) (map decimal homes) (numbers_fields count (home ∷ homes) fits each) in
    let enough : nat_le (length (map decimal (home ∷ homes))) 64 ≡ true =
    le-leb _ 64 (omega (arith, length_numbers (home ∷ homes))) in
    rw (fields, enough, numbers_read count (home ∷ homes) fits each) refl

-- `homes H ..` is read as its homes
pub homes_read : (count : ℕ) (homes line : List ℕ)
    → count ≤ 2 ^ 64
    → IsHomesLine count homes line
    → homes_line count line ≡ Some homes
homes_read count homes line fits h = rw h.line_is (homes_found count homes fits h.some h.few h.each)

with_homes : (homes rest : List ℕ)
    → 1 ≤ length homes
    → rest ≡ words (map decimal homes)
    → codes "homes" ++ space ∷ rest ≡ words (codes "homes" ∷ map decimal homes)
with_homes [] rest some is = absurd (omega arith)
with_homes (home ∷ homes) rest some is = rw is refl

-- what is read as homes is a line `homes H ..`
pub homes_spelled : (count : ℕ) (line homes : List ℕ)
    → count ≤ 2 ^ 64
    → homes_line count line ≡ Some homes
    → IsHomesLine count homes line
homes_spelled count line homes fits h =
    let c = then_parts _ (split_once space line) homes h in
    by_tests c.0.0 c.0.1 (bytes_eq c.0.0 (codes "homes")) (nat_le (length (fields_of c.0.1)) 64) refl refl
    (split_spelled space line c.0.0 c.0.1 c.1) c.2
  where
    by_tests : (word rest : List ℕ) (named few : Bool)
        → bytes_eq word (codes "homes") ≡ named
        → nat_le (length (fields_of rest)) 64 ≡ few
        → line ≡ word ++ space ∷ rest
        → cond (named && few) (numbers_below count (fields_of rest)) None ≡ Some homes
        → IsHomesLine count homes line
    by_tests word rest false few is_named is_few is e = cc
    by_tests word rest true false is_named is_few is e = cc
    by_tests word rest true true is_named is_few is e =
        let (fields, below) = numbers_spelled count (fields_of rest) homes fits e in
        let count_is : length (fields_of rest) ≡ length homes = ap length fields ∙ length_numbers homes in
        let some : 1 ≤ length homes = omega (arith, some_field rest) in
        let rest_is : rest ≡ words (map decimal homes) = sym (joined_fields rest) ∙ ap words fields in
        record {
          some = some;
          few = omega (arith, leb-true (length (fields_of rest)) 64 is_few);
          each = below;
          line_is =
              parts_are line word rest (codes "homes") rest is ((bytes_eq-Decides word (codes "homes")).0 is_named)
              refl ∙ with_homes homes rest some rest_is;
        }
