-- What the line at the front asks for stays so when more bytes come.
use Rattle.std.proofs.Common.{◌≡◌, ℕ, zero, suc, ◌+◌, ◌<◌, ◌≤◌, Bool, true, false, cond, List, [], ◌∷◌, ◌++◌, length}
use Rattle.std.proofs.Common.{take, Option, None, Some, refl, ap, arith, nat_lt, nat_le, length-append, length-take}
use Rattle.std.specs.Prelude.{◌==◌, not}
use Rattle.std.specs.List.{position, position_or_len}
use Rattle.std.proofs.lemmas.Bool.Decides.{nat_tests}
use Rattle.std.proofs.lemmas.List.{take-append-le}
use Rattle.std.proofs.lemmas.List.Quantifiers.{position-Some}
use Rattle.proto.specs.declared.lines.Asked.{Asked}
use Rattle.proto.specs.declared.lines.Asked.TheVariants.{Whole}
use Rattle.proto.specs.declared.requests.Request.TheVariants.{Bad}
use Rattle.proto.specs.declared.requests.Fault.TheVariants.{LineTooLong}
use Rattle.proto.specs.Words.{lf, first_lf}
use Rattle.proto.specs.Requests.{asked_within, by_end}

-- the first place that passes stays when more comes
first_kept : (p : ℕ → Bool) (xs ys : List ℕ)
    → position_or_len p xs < length xs
    → position_or_len p (xs ++ ys) ≡ position_or_len p xs
first_kept p [] ys h = absurd (omega arith)
first_kept p (x ∷ xs) ys h =
    elim (p x) as (λ b. cond (not b) (1 + position_or_len p xs) 0 < length (x ∷ xs)
    → cond (not b) (1 + position_or_len p (xs ++ ys)) 0 ≡ cond (not b) (1 + position_or_len p xs) 0) [
      | true ↦ λ below. refl
      | false ↦ λ below. ap (λ n. 1 + n) (first_kept p xs ys (omega arith))
    ] h

position_kept : (p : ℕ → Bool) (xs ys : List ℕ) (i : ℕ) → position p xs ≡ Some i → position p (xs ++ ys) ≡ Some i
position_kept p xs ys i h = by_test (nat_lt (position_or_len p xs) (length xs)) refl h
  where
    by_test : (b : Bool)
        → nat_lt (position_or_len p xs) (length xs) ≡ b
        → cond b (Some (position_or_len p xs)) None ≡ Some i
        → position p (xs ++ ys) ≡ Some i
    by_test false e none = cc
    by_test true e is =
        let below : position_or_len p xs < length xs = grind (arith, nat_tests, e) in
        let same = first_kept p xs ys below in
        let inside : nat_lt (position_or_len p xs) (length (xs ++ ys)) ≡ true =
        grind (arith, nat_tests, length-append xs ys, below) in
        rw (same, inside) is

-- a cut front of more bytes begins with the cut front of the bytes
take_more : (n : ℕ) (xs ys : List ℕ) → (zs : List ℕ) × (take n (xs ++ ys) ≡ take n xs ++ zs)
take_more zero xs ys = ([], refl)
take_more (suc n) [] ys = (take (suc n) ys, refl)
take_more (suc n) (x ∷ xs) ys = let rest = take_more n xs ys in (rest.0, ap (λ zs. x ∷ zs) rest.1)

by_end_kept : (most : ℕ) (place : Option ℕ) (bytes more : List ℕ) (found : Asked × ℕ)
    → first_lf (take most bytes) ≡ place
    → by_end most bytes place ≡ Some found
    → asked_within most (bytes ++ more) ≡ Some found
by_end_kept most None bytes more found e h = by_length (nat_le most (length bytes)) refl h
  where
    by_length : (b : Bool)
        → nat_le most (length bytes) ≡ b
        → cond b (Some (Whole (Bad LineTooLong), most)) None ≡ Some found
        → asked_within most (bytes ++ more) ≡ Some found
    by_length false long is = cc
    by_length true long is =
        let enough : most ≤ length bytes = grind (arith, nat_tests, long) in
        let still : nat_le most (length (bytes ++ more)) ≡ true =
        grind (arith, nat_tests, length-append bytes more, enough) in
        rw (take-append-le most bytes more enough, e, still) is
by_end_kept most (Some i) bytes more found e h =
    let longer = take_more most bytes more in
    let place : first_lf (take most (bytes ++ more)) ≡ Some i =
    rw longer.1 (position_kept (λ b. b == lf) (take most bytes) longer.0 i e) in
    let inside : i < length (take most bytes) = (position-Some (λ b. b == lf) (take most bytes) i 0 e).0 in
    let within : i < length bytes = omega (arith, length-take most bytes) in
    rw (place, take-append-le i bytes more (omega arith)) h

-- what is asked for within the first bytes is asked for when more come
pub asked_kept : (most : ℕ) (bytes more : List ℕ) (found : Asked × ℕ)
    → asked_within most bytes ≡ Some found
    → asked_within most (bytes ++ more) ≡ Some found
asked_kept most bytes more found h = by_end_kept most (first_lf (take most bytes)) bytes more found refl h
