-- Fields of a text, cut one after another.
use Rattle.std.proofs.Common.{◌≡◌, ℕ, ◌+◌, ◌-◌, ◌<◌, Bool, true, false, cond, List, [], ◌∷◌, length, take, drop, Option}
use Rattle.std.proofs.Common.{None, Some, refl, sym, ap, ◌∙◌, subst, arith, nat_lt, length-take}
use Rattle.std.specs.Prelude.{◌==◌, ◌≤◌, min, unwrap_or}
use Rattle.std.specs.List.{position_or_len, list_all}
use Rattle.std.proofs.lemmas.Bool.Decides.{nat_tests}
use Rattle.std.proofs.lemmas.List.Splits.{slice_split_none, slice_split_first}
use Rattle.std.proofs.lemmas.List.Sums.{fails_before_first}
use Rattle.std.proofs.lemmas.Bool.{and_parts, leb-true}
use Rattle.std.proofs.lemmas.Grind.{common_steps}
use Rattle.std.proofs.lemmas.List.{take_all, drop_all}
use Rattle.std.proofs.lemmas.List.Quantifiers.{position-Some}
use Rattle.table.specs.Keys.{IsKey, is_key}
use Rattle.proto.specs.Keys.{keys_in}
use Rattle.proto.specs.Words.{space, fields_of, first_space, first_end}

-- the first field ends at the first space
pub cut_at : (text : List ℕ) (i : ℕ)
    → first_space text ≡ Some i
    → fields_of text ≡ take i text ∷ fields_of (drop (i + 1) text)
cut_at text i e = by_test (nat_lt (position_or_len (λ b. b == space) text) (length text)) refl e
  where
    by_test : (b : Bool)
        → nat_lt (position_or_len (λ b. b == space) text) (length text) ≡ b
        → cond b (Some (position_or_len (λ b. b == space) text)) None ≡ Some i
        → fields_of text ≡ take i text ∷ fields_of (drop (i + 1) text)
    by_test false less none = cc
    by_test true less is =
        let below : position_or_len (λ b. b == space) text < length text = grind (arith, nat_tests, less) in
        let same : position_or_len (λ b. b == space) text ≡ i = cc in
        slice_split_first (λ b. b == space) text 0 below ∙ ap (λ k. take k text ∷ fields_of (drop (k + 1) text)) same

-- without a space there is one field
pub cut_none : (text : List ℕ) → first_space text ≡ None → fields_of text ≡ text ∷ []
cut_none text e = by_test (nat_lt (position_or_len (λ b. b == space) text) (length text)) refl e
  where
    by_test : (b : Bool)
        → nat_lt (position_or_len (λ b. b == space) text) (length text) ≡ b
        → cond b (Some (position_or_len (λ b. b == space) text)) None ≡ None
        → fields_of text ≡ text ∷ []
    by_test true less is = cc
    by_test false less none =
        slice_split_none (λ b. b == space) text
        (λ k d below. fails_before_first (λ b. b == space) text k d (grind (arith, nat_tests, less, below)))

-- The first key of a text, and the text after it.
pub record Popped (text key rest : List ℕ) : Type 0 where
  pub first : keys_in text ≡ key ∷ keys_in rest
  pub key_is : IsKey key
  pub keys : list_all is_key (keys_in rest) ≡ true

-- a text whose fields are keys isn't empty
keys_of_fields : (text : List ℕ) → list_all is_key (fields_of text) ≡ true → keys_in text ≡ fields_of text
keys_of_fields [] h = cc
keys_of_fields (b ∷ bs) h = refl

popped_at : (text : List ℕ) (i : ℕ)
    → list_all is_key (fields_of text) ≡ true
    → first_space text ≡ Some i
    → Popped text (take i text) (drop (i + 1) text)
popped_at text i h e =
    let cut = cut_at text i e in
    let parts = and_parts (is_key (take i text)) (list_all is_key (fields_of (drop (i + 1) text)))
    (ap (list_all is_key) (sym cut) ∙ h) in
    let rest = keys_of_fields (drop (i + 1) text) parts.1 in
    record {
      first = keys_of_fields text h ∙ (cut ∙ ap (λ fs. take i text ∷ fs) (sym rest));
      key_is = parts.0;
      keys = ap (list_all is_key) rest ∙ parts.1;
    }

popped_last : (text : List ℕ) → list_all is_key (fields_of text) ≡ true → first_space text ≡ None → Popped text text []
popped_last text h e =
    let cut = cut_none text e in
    let parts = and_parts (is_key text) true (ap (list_all is_key) (sym cut) ∙ h) in
    record { first = keys_of_fields text h ∙ cut; key_is = parts.0; keys = refl }

-- where the text after the first key begins
abbrev past_of : List ℕ → ℕ
past_of text = min (length text) (first_end text + 1)

popped : (text : List ℕ)
    → 1 ≤ length text
    → list_all is_key (keys_in text) ≡ true
    → Popped text (take (first_end text) text) (drop (past_of text) text)
popped [] some h = absurd (omega arith)
popped (b ∷ bs) some h = by_place (first_space (b ∷ bs)) refl
  where
    by_place : (place : Option ℕ) → first_space (b ∷ bs) ≡ place
        → Popped (b ∷ bs) (take (unwrap_or place (length (b ∷ bs))) (b ∷ bs))
        (drop (min (length (b ∷ bs)) (unwrap_or place (length (b ∷ bs)) + 1)) (b ∷ bs))
    by_place (Some i) e =
        let below : i < length (b ∷ bs) = (position-Some (λ c. c == space) (b ∷ bs) i 0 e).0 in
        let same : min (length (b ∷ bs)) (i + 1) ≡ i + 1 = grind (arith, common_steps, below) in
        subst (λ k. Popped (b ∷ bs) (take i (b ∷ bs)) (drop k (b ∷ bs))) (sym same) (popped_at (b ∷ bs) i h e)
    by_place None e =
        let whole : take (length (b ∷ bs)) (b ∷ bs) ≡ b ∷ bs = take_all (length (b ∷ bs)) (b ∷ bs) (omega arith) in
        let same : min (length (b ∷ bs)) (length (b ∷ bs) + 1) ≡ length (b ∷ bs) = grind (arith, common_steps) in
        let none : drop (min (length (b ∷ bs)) (length (b ∷ bs) + 1)) (b ∷ bs) ≡ [] =
        ap (λ k. drop k (b ∷ bs)) same ∙ drop_all (length (b ∷ bs)) (b ∷ bs) (omega arith) in
        subst (λ r. Popped (b ∷ bs) (take (length (b ∷ bs)) (b ∷ bs)) r) (sym none)
        (subst (λ k. Popped (b ∷ bs) k []) (sym whole) (popped_last (b ∷ bs) h e))

-- a first key that was cut off is the first, and the text after its space has the others
pub popped_key : (text key rest : List ℕ) (at past : ℕ)
    → list_all is_key (keys_in text) ≡ true
    → at ≡ first_end text
    → past ≡ min (length text) (at + 1)
    → key ≡ take at text → rest ≡ drop past text → IsKey key → Popped text key rest
popped_key [] key rest at past h at_is past_is key_is rest_is is =
    let some : 1 ≤ length key = leb-true 1 (length key) (and_parts _ _ (and_parts _ _ is).0).0 in
    let none : length key ≡ length (take at []) = ap length key_is in
    let cut = length-take {A = ℕ} at [] in
    absurd (omega arith)
popped_key (b ∷ bs) key rest at past h at_is past_is key_is rest_is is =
    let cut : key ≡ take (first_end (b ∷ bs)) (b ∷ bs) = key_is ∙ ap (λ n. take n (b ∷ bs)) at_is in
    let left : rest ≡ drop (past_of (b ∷ bs)) (b ∷ bs) =
    rest_is ∙ ap (λ k. drop k (b ∷ bs)) (past_is ∙ ap (λ k. min (length (b ∷ bs)) (k + 1)) at_is) in
    subst (λ k. Popped (b ∷ bs) k rest) (sym cut)
    (subst (λ r. Popped (b ∷ bs) (take (first_end (b ∷ bs)) (b ∷ bs)) r) (sym left)
    (popped (b ∷ bs) (omega arith) h))

-- if no key was cut off, there is none
pub no_key_left : (text : List ℕ) (at : ℕ)
    → list_all is_key (keys_in text) ≡ true
    → at ≡ first_end text
    → (IsKey (take at text) → ⊥)
    → keys_in text ≡ []
no_key_left [] at h at_is none = refl
no_key_left (b ∷ bs) at h at_is none =
    absurd (none (subst (λ n. IsKey (take n (b ∷ bs))) (sym at_is) (popped (b ∷ bs) (omega arith) h).key_is))
