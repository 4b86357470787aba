-- How inlets are dealt out.
use Rattle.std.proofs.Common.{◌≡◌, ◌≢◌, inl, inr, ℕ, zero, suc, ◌<◌, ◌≤◌, List, [], ◌∷◌, ◌++◌, Option, None}
use Rattle.std.proofs.Common.{length, map, slice_index_or, slice_set, refl, ap, sym, ◌∙◌, subst, append_assoc}
use Rattle.std.proofs.Common.{append-nil}
use Rattle.std.proofs.Common.{arith, length-append}
use Rattle.craq_process.specs.Wiring.{last_first, listed}
use Rattle.craq_process.proofs.Dealt.{either, last_first_pushed, nothing_before}
use Rattle.craq_cluster.specs.Wiring.{IsDealt, AreDealt, at_place, column, list_at}

-- nothing stands beyond the last place
none_beyond : {A : Type 0} (place : ℕ) (xs : List (Option A)) → length xs ≤ place
    → at_place xs place ≡ None
none_beyond place [] beyond = refl
none_beyond zero (x ∷ xs) beyond = absurd (omega (arith, beyond))
none_beyond (suc place) (x ∷ xs) beyond = none_beyond place xs (omega (arith, beyond))

-- what stands at the last place
last_pushed : {A : Type 0} (xs : List (Option A)) (y : Option A) (k : ℕ) → k ≡ length xs
    → at_place (xs ++ y ∷ []) k ≡ y
last_pushed [] y zero is = refl
last_pushed [] y (suc k) is = absurd (omega (arith, is))
last_pushed (x ∷ xs) y zero is = absurd (omega (arith, is))
last_pushed (x ∷ xs) y (suc k) is = last_pushed xs y k (omega (arith, is))

-- and at all others
others_pushed : {A : Type 0} (xs : List (Option A)) (y : Option A) (k : ℕ) → k ≢ length xs
    → at_place (xs ++ y ∷ []) k ≡ at_place xs k
others_pushed [] y zero other = absurd (other refl)
others_pushed [] y (suc k) other = refl
others_pushed (x ∷ xs) y zero other = refl
others_pushed (x ∷ xs) y (suc k) other = others_pushed xs y k (λ e. other (ap suc e))

-- a list that was put at a place
set_here : {A : Type 0} (k : ℕ) (xs : List (List A)) (y : List A) → k < length xs
    → list_at (slice_set xs k y) k ≡ y
set_here k [] y within = absurd (omega (arith, within))
set_here zero (x ∷ xs) y within = refl
set_here (suc k) (x ∷ xs) y within = set_here k xs y (omega (arith, within))

set_elsewhere : {A : Type 0} (k : ℕ) (xs : List (List A)) (y : List A) (j : ℕ) → j ≢ k
    → list_at (slice_set xs k y) j ≡ list_at xs j
set_elsewhere k [] y j other = refl
set_elsewhere zero (x ∷ xs) y zero other = absurd (other refl)
set_elsewhere zero (x ∷ xs) y (suc j) other = refl
set_elsewhere (suc k) (x ∷ xs) y zero other = refl
set_elsewhere (suc k) (x ∷ xs) y (suc j) other = set_elsewhere k xs y j (λ e. other (ap suc e))

-- what is made of each, at a place
pub map_at : {S A : Type 0} (f : S → List A) (k : ℕ) (xs : List S) (d : S) → k < length xs
    → list_at (map f xs) k ≡ f (slice_index_or xs k d)
map_at f k [] d within = absurd (omega (arith, within))
map_at f zero (x ∷ xs) d within = refl
map_at f (suc k) (x ∷ xs) d within = map_at f k xs d (omega (arith, within))

pub map_set : {S A : Type 0} (f : S → A) (k : ℕ) (xs : List S) (y : S)
    → map f (slice_set xs k y) ≡ slice_set (map f xs) k (f y)
map_set f k [] y = refl
map_set f zero (x ∷ xs) y = refl
map_set f (suc k) (x ∷ xs) y = ap (λ zs. f x ∷ zs) (map_set f k xs y)

pub map_pushed : {S A : Type 0} (f : S → A) (xs : List S) (y : S) → map f (xs ++ y ∷ []) ≡ map f xs ++ f y ∷ []
map_pushed f [] y = refl
map_pushed f (x ∷ xs) y = ap (λ zs. f x ∷ zs) (map_pushed f xs y)

length_map : {S A : Type 0} (f : S → A) (xs : List S) → length (map f xs) ≡ length xs
length_map f [] = refl
length_map f (x ∷ xs) = ap suc (length_map f xs)

-- nothing was taken yet
pub dealt_none : {A : Type 0} (id : ℕ) (before : List (List A)) → IsDealt id before before []
dealt_none id before = record {
  each = λ j. sym (append-nil (list_at before j));
  own = refl;
  whole = λ j within other none. absurd (omega (arith, within));
}

-- one server more
pub dealt_more : {A : Type 0} (id j : ℕ) (before now : List (List A)) (taken : List (Option A)) (x : List A)
    (y : Option A)
    → IsDealt id before now taken
    → j ≡ length taken
    → j < length now
    → list_at now j ≡ x ++ listed y
    → (j ≡ id → y ≡ None)
    → (j ≢ id → y ≡ None → x ≡ [])
    → IsDealt id before (slice_set now j x) (taken ++ y ∷ [])
dealt_more {A} id j before now taken x y dealt is within took own whole =
    let here : at_place (taken ++ y ∷ []) j ≡ y = last_pushed taken y j is in
    let there : (k : ℕ) → k ≢ j → at_place (taken ++ y ∷ []) k ≡ at_place taken k =
    λ k other. others_pushed taken y k (λ e. other (e ∙ sym is)) in
    let now_here : list_at (slice_set now j x) j ≡ x = set_here j now x within in
    let now_there : (k : ℕ) → k ≢ j → list_at (slice_set now j x) k ≡ list_at now k =
    λ k other. set_elsewhere j now x k other in
    record {
      each = λ k. elim (either k j) [
        | inl e ↦ subst (λ n. list_at before n ≡ list_at (slice_set now j x) n ++ listed (at_place (taken ++ y ∷ []) n))
            (sym e)
            (dealt.each j
            ∙ (ap (λ o. list_at now j ++ listed o) (none_beyond j taken (omega (arith, is)))
            ∙ (append-nil (list_at now j)
            ∙ (took
            ∙ (ap (λ w. w ++ listed y) (sym now_here)
            ∙ ap (λ o. list_at (slice_set now j x) j ++ listed o) (sym here))))))
        | inr other ↦ dealt.each k
            ∙ (ap (λ w. w ++ listed (at_place taken k)) (sym (now_there k other))
            ∙ ap (λ o. list_at (slice_set now j x) k ++ listed o) (sym (there k other)))
      ];
      own = elim (either id j) [
        | inl e ↦ ap (at_place (taken ++ y ∷ [])) e ∙ (here ∙ own (sym e))
        | inr other ↦ there id other ∙ dealt.own
      ];
      whole = λ k below other none. elim (either k j) [
        | inl e ↦ ap (list_at (slice_set now j x)) e
            ∙ (now_here
            ∙ whole (λ same. other (e ∙ same)) (sym here ∙ (ap (at_place (taken ++ y ∷ [])) (sym e) ∙ none)))
        | inr apart ↦ now_there k apart
            ∙ dealt.whole k (omega (arith, length-append taken (y ∷ []), is, below, apart)) other
            (sym (there k apart) ∙ none)
      ];
    }

-- nobody took any yet
pub all_dealt_none : {A : Type 0} (before : List (List A)) → AreDealt before before []
all_dealt_none before = record {
  each = λ j. sym (append-nil (list_at before j));
  own = λ i. refl;
  whole = λ i j within beside other none. absurd (omega (arith, within));
}

-- one server more took its own
pub all_dealt_more : {A : Type 0} (id : ℕ) (before now next : List (List A)) (all : List (List (Option A)))
    (taken : List (Option A))
    → AreDealt before now all
    → IsDealt id now next taken
    → id ≡ length all
    → length taken ≡ length before
    → AreDealt before next (all ++ taken ∷ [])
all_dealt_more {A} id before now next all taken dealt more is size =
    let columns : (j : ℕ) → column j (all ++ taken ∷ []) ≡ column j all ++ at_place taken j ∷ [] =
    λ j. map_pushed (λ row. at_place row j) all taken in
    let as_many : (j : ℕ) → length (column j all) ≡ length all = λ j. length_map (λ row. at_place row j) all in
    let here : (i j : ℕ) → i ≡ id → at_place (column j (all ++ taken ∷ [])) i ≡ at_place taken j =
    λ i j e. ap (λ w. at_place w i) (columns j)
    ∙ last_pushed (column j all) (at_place taken j) i (e ∙ (is ∙ sym (as_many j))) in
    let there : (i j : ℕ) → i ≢ id → at_place (column j (all ++ taken ∷ [])) i ≡ at_place (column j all) i =
    λ i j other. ap (λ w. at_place w i) (columns j)
    ∙ others_pushed (column j all) (at_place taken j) i (λ e. other (e ∙ (as_many j ∙ sym is))) in
    record {
      each = λ j. dealt.each j
          ∙ (ap (λ w. w ++ last_first (column j all)) (more.each j)
          ∙ (append_assoc (list_at next j) (listed (at_place taken j)) (last_first (column j all))
          ∙ ap (λ w. list_at next j ++ w)
          (sym (ap last_first (columns j) ∙ last_first_pushed (column j all) (at_place taken j)))));
      own = λ i. elim (either i id) [
        | inl e ↦ here i i e ∙ (ap (at_place taken) e ∙ more.own)
        | inr other ↦ there i i other ∙ dealt.own i
      ];
      whole = λ i j below beside other none. elim (either i id) [
        | inl e ↦ more.whole j (omega (arith, size, beside)) (λ same. other (e ∙ sym same)) (sym (here i j e) ∙ none)
        | inr apart ↦ nothing_before (list_at next j) (listed (at_place taken j))
            (sym (more.each j)
            ∙ dealt.whole i j (omega (arith, length-append all (taken ∷ []), is, below, apart)) beside other
            (sym (there i j apart) ∙ none))
      ];
    }
