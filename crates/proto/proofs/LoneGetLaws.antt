-- A `get` of one key that stands at a front is found there, whatever follows.
use Rattle.std.proofs.Common.{◌≡◌, ℕ, ◌+◌, ◌≤◌, true, false, List, [], ◌∷◌, ◌++◌, length, Some, refl, sym, ap, ◌∙◌}
use Rattle.std.proofs.Common.{arith, lit≤, append_assoc, length-append, take, drop, subst, Option, None}
use Rattle.std.specs.Prelude.{◌==◌, ◌&&◌, ◌↔◌, not, nat_eq, nat_le, IsTrue, Result, Ok, Err, IfOk, IfSome, IsSome}
use Rattle.std.specs.Cmp.Lexicographic.{pointwise, same_text}
use Rattle.std.proofs.lemmas.List.{take-append-drop}
use Rattle.std.specs.List.{list_all}
use Rattle.std.proofs.lemmas.Bool.{and_parts, and_from, leb-true}
use Rattle.std.proofs.lemmas.Bool.Decides.{nat_tests}
use Rattle.table.specs.Keys.{IsKey, is_key, is_key_byte}
use Rattle.proto.specs.declared.front.Found.TheVariants.{Request as Requested}
use Rattle.proto.specs.declared.requests.Request.TheVariants.{Get}
use Rattle.proto.specs.Words.{lf, space, crlf, line_limit}
use Rattle.proto.specs.Grammar.{Spells, is_field}
use Rattle.proto.specs.Fronts.{front, refused_at, found_of, found_at}
use Rattle.proto.proofs.GrammarLaws.{spelled_is_found}

-- a key's byte is neither a space nor a line feed
key_byte_fits : (b : ℕ)
    → IsTrue (is_key_byte b)
    → IsTrue (not (b == space) && not (b == lf))
key_byte_fits b is = grind (arith, nat_tests, is)

-- so a key is a field
pub key_fits : (key : List ℕ)
    → IsTrue (list_all is_key_byte key)
    → IsTrue (is_field key)
key_fits [] each = refl
key_fits (b ∷ bs) each =
    let parts = and_parts (is_key_byte b) (list_all is_key_byte bs) each in
    and_from (not (b == space) && not (b == lf)) (is_field bs) (key_byte_fits b parts.0) (key_fits bs parts.1)

-- the line of such a get
abbrev get_of : List ℕ → List ℕ
get_of key = 103 ∷ 101 ∷ 116 ∷ 32 ∷ (key ++ crlf)

get_length : (key : List ℕ) → length (get_of key) ≡ length key + 6
get_length key = omega (arith, length-append key crlf)

get_is_short : (key : List ℕ) → length key ≤ 250 → length (get_of key) ≤ line_limit
unfolding line_limit
get_is_short key short = omega (arith, get_length key)

get_is_spelled : (key : List ℕ)
    → IsKey key
    → Spells (Get (key ∷ []) false) (get_of key)
get_is_spelled key is =
    let sizes : IsTrue (nat_le 1 (length key) && nat_le (length key) 250) = (and_parts _ _ is).0 in
    let bytes : IsTrue (list_all is_key_byte key) = (and_parts _ _ is).1 in
    let some : 1 ≤ length key = leb-true 1 (length key) (and_parts _ _ sizes).0 in
    let short : length key ≤ 250 = leb-true (length key) 250 (and_parts _ _ sizes).1 in (
      record {
        spelled = refl;
        separate = and_from (is_field key) true (key_fits key bytes) refl;
        short = get_is_short key short;
      },
      record { some = lit≤ tt; each = and_from (is_key key) true is refl },
    )

-- it is found, as it stands
pub lone_get_found : (bytes key more : List ℕ)
    → IsKey key
    → bytes ≡ 103 ∷ 101 ∷ 116 ∷ 32 ∷ (key ++ 13 ∷ 10 ∷ more)
    → found_at bytes ≡ Requested (Get (key ∷ []) false) (length key + 6)
lone_get_found bytes key more is bytes_are =
    let cut : bytes ≡ get_of key ++ more =
    bytes_are ∙ ap (λ rest. 103 ∷ 101 ∷ 116 ∷ 32 ∷ rest) (sym (append_assoc key crlf more)) in
    let found : front bytes ≡ Some (Get (key ∷ []) false, length (get_of key)) =
    ap front cut ∙ spelled_is_found (Get (key ∷ []) false) (get_of key) more (get_is_spelled key is) in
    ap (λ f. found_of f (refused_at bytes)) found
    ∙ ap (λ n. Requested (Get (key ∷ []) false) n) (get_length key)

-- and it stands there whole
pub lone_get_inside : (bytes key more : List ℕ)
    → bytes ≡ 103 ∷ 101 ∷ 116 ∷ 32 ∷ (key ++ 13 ∷ 10 ∷ more)
    → length key + 6 ≤ length bytes
lone_get_inside bytes key more bytes_are =
    let count = ap length bytes_are in
    omega (arith, count, length-append key (13 ∷ 10 ∷ more))

-- what stands at the front and is cut off there
pub cut_front : (bytes first rest : List ℕ)
    → true ≡ pointwise nat_eq (take (length first) bytes) first
    → rest ≡ drop (length first) bytes
    → bytes ≡ first ++ rest
cut_front bytes first rest same rest_is =
    sym (take-append-drop (length first) bytes)
    ∙ ap (λ xs. xs ++ drop (length first) bytes) (same_text (take (length first) bytes) first same)
    ∙ ap (λ xs. first ++ xs) (sym rest_is)

-- the key that was made of the bytes between the word and the line's end
pub lone_key_found : {E : Type 0} (r : Result (Option (List ℕ)) E) (bytes rest text more : List ℕ) (at : ℕ)
    → IfOk r (λ found. IfSome found (λ key. key ≡ text))
    → IfOk r (λ found. IsSome found ↔ IsKey text)
    → bytes ≡ 103 ∷ 101 ∷ 116 ∷ 32 ∷ rest
    → text ≡ take at rest
    → drop at rest ≡ 13 ∷ 10 ∷ more
    → IfOk r (λ found. IfSome found (λ key. found_at bytes ≡ Requested (Get (key ∷ []) false) (length key + 6)))
lone_key_found (Err e) bytes rest text more at made valid word cut end = tt
lone_key_found (Ok None) bytes rest text more at made valid word cut end = tt
lone_key_found (Ok (Some key)) bytes rest text more at made valid word cut end =
    let is : IsKey key = subst IsKey (sym made) (valid.0 refl) in
    let joined : rest ≡ key ++ 13 ∷ 10 ∷ more =
    sym (take-append-drop at rest)
    ∙ (ap (λ xs. xs ++ drop at rest) (sym (made ∙ cut)) ∙ ap (λ xs. key ++ xs) end) in
    lone_get_found bytes key more is (word ∙ ap (λ xs. 103 ∷ 101 ∷ 116 ∷ 32 ∷ xs) joined)
