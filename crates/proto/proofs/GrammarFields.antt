-- The fields of a line's text: cut at each space, and joined again.
use Rattle.std.proofs.Common.{◌≡◌, ℕ, ◌<◌, ◌≤◌, Bool, true, false, cond, List, [], ◌∷◌, length, get_or, refl, ap, ◌∙◌}
use Rattle.std.proofs.Common.{arith}
use Rattle.std.specs.Prelude.{◌==◌, ◌&&◌, not, IsTrue}
use Rattle.std.specs.List.{list_all, join_with_byte, onto_first}
use Rattle.std.proofs.lemmas.Bool.{and_parts, and_from, not-true}
use Rattle.std.proofs.lemmas.List.Sums.{AllPass-from_list_all}
use Rattle.std.proofs.lemmas.List.Folds.{list_all-append}
use Rattle.std.proofs.lemmas.List.Splits.{slice_split_none, slice_split_at, length-slice_split}
use Rattle.std.proofs.lemmas.List.Splits.{join_with_byte-slice_split}
use Rattle.proto.specs.Words.{lf, space, fields_of}
use Rattle.proto.specs.Grammar.{has_no_lf, is_field}

-- no byte of a field is a space
no_space : (field : List ℕ)
    → IsTrue (is_field field)
    → (k d : ℕ)
    → k < length field
    → (get_or field k d == space) ≡ false
no_space field h k d below =
    not-true _ (and_parts _ _ (AllPass-from_list_all (λ b. not (b == space) && not (b == lf)) field h k d below)).0

-- what was joined is cut into the same fields
pub fields_of_joined : (field : List ℕ) (fields : List (List ℕ))
    → IsTrue (list_all is_field (field ∷ fields))
    → fields_of (join_with_byte space (field ∷ fields)) ≡ field ∷ fields
fields_of_joined field [] h = slice_split_none (λ b. b == space) field (no_space field (and_parts _ _ h).0)
fields_of_joined field (next ∷ fields) h =
    let parts = and_parts (is_field field) (list_all is_field (next ∷ fields)) h in
    slice_split_at (λ b. b == space) field space (join_with_byte space (next ∷ fields)) (no_space field parts.0) refl
    ∙ ap (λ fs. field ∷ fs) (fields_of_joined next fields parts.1)

-- what was cut is joined to the same text
pub joined_fields : (t : List ℕ) → join_with_byte space (fields_of t) ≡ t
joined_fields t = join_with_byte-slice_split space t

-- no LF in a field
no_lf : (field : List ℕ) → IsTrue (is_field field) → IsTrue (has_no_lf field)
no_lf [] h = refl
no_lf (b ∷ bs) h =
    let parts = and_parts (not (b == space) && not (b == lf)) (is_field bs) h in
    and_from (not (b == lf)) (has_no_lf bs) (and_parts _ _ parts.0).1 (no_lf bs parts.1)

-- no LF in joined fields
pub no_lf_in_joined : (fields : List (List ℕ))
    → IsTrue (list_all is_field fields)
    → IsTrue (has_no_lf (join_with_byte space fields))
no_lf_in_joined [] h = refl
no_lf_in_joined (field ∷ []) h = no_lf field (and_parts _ _ h).0
no_lf_in_joined (field ∷ next ∷ fields) h =
    let parts = and_parts (is_field field) (list_all is_field (next ∷ fields)) h in
    let rest : IsTrue (has_no_lf (join_with_byte space (next ∷ fields))) = no_lf_in_joined (next ∷ fields) parts.1 in
    list_all-append (λ b. not (b == lf)) field (space ∷ join_with_byte space (next ∷ fields))
    ∙ and_from _ _ (no_lf field parts.0) rest

-- a byte more at the front of the first field
with_byte : (b : ℕ) (parts : List (List ℕ))
    → not (b == space) && not (b == lf) ≡ true
    → IsTrue (list_all is_field parts)
    → IsTrue (list_all is_field (onto_first b parts))
with_byte b [] h each = and_from _ _ (and_from _ _ h refl) refl
with_byte b (part ∷ parts) h each =
    let both = and_parts (is_field part) (list_all is_field parts) each in
    and_from _ _ (and_from _ _ h both.0) both.1

-- the fields of a text without LF are fields
pub fields_are : (t : List ℕ) → IsTrue (has_no_lf t) → IsTrue (list_all is_field (fields_of t))
fields_are [] h = refl
fields_are (b ∷ t) h =
    let parts = and_parts (not (b == lf)) (has_no_lf t) h in
    by_space (b == space) refl parts.0 (fields_are t parts.1)
  where
    by_space : (s : Bool)
        → (b == space) ≡ s
        → not (b == lf) ≡ true
        → IsTrue (list_all is_field (fields_of t))
        → IsTrue (list_all is_field (cond s ([] ∷ fields_of t) (onto_first b (fields_of t))))
    by_space true e other rest = rest
    by_space false e other rest = with_byte b (fields_of t) (and_from _ _ (ap not e) other) rest

-- there is one field at least
pub some_field : (t : List ℕ) → 1 ≤ length (fields_of t)
some_field t = omega (arith, length-slice_split (λ b. b == space) t)
