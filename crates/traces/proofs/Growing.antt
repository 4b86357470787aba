-- Texts that grow at their end, piece by piece.
use Rattle.std.proofs.Common.{◌≡◌, ℕ, zero, suc, ◌+◌, ◌≤◌, List, [], ◌∷◌, ◌++◌, length, take, None, Some, refl, ap, sym}
use Rattle.std.proofs.Common.{◌∙◌, arith, append_assoc, append-nil}
use Rattle.std.specs.Prelude.{flat_map, map, slice_get}
use Rattle.std.proofs.lemmas.List.{flat_map_more, take_more}
use Rattle.std.proofs.lemmas.List.FromFn.{map-range_with_len_more}
use Rattle.std.proofs.lemmas.Option.{slice_get_within, get_or_from_slice_get}
use Rattle.schedules.specs.Settling.{first_numbers}
use Rattle.schedules.proofs.Rounds as rounds

-- what a further number adds
pub one_more : {X : Type 0} (front : List X) (f : ℕ → List X) (n : ℕ)
    → front ++ flat_map f (first_numbers (n + 1)) ≡ (front ++ flat_map f (first_numbers n)) ++ f n
one_more front f n =
    ap (λ text. front ++ text) (rounds.one_more f n) ∙ sym (append_assoc front (flat_map f (first_numbers n)) (f n))

-- the same if each number gives one
pub one_mapped_more : {X : Type 0} (front : List X) (f : ℕ → X) (n : ℕ)
    → front ++ map f (first_numbers (n + 1)) ≡ (front ++ map f (first_numbers n)) ++ f n ∷ []
one_mapped_more front f n =
    ap (λ xs. front ++ xs) (map-range_with_len_more f 0 n n (omega arith))
    ∙ sym (append_assoc front (map f (first_numbers n)) (f n ∷ []))

-- what loops over numbers add
pub ruleset ways_more = (one_more, one_mapped_more)

-- what a further element adds
pub first_more : {X : Type 0} (front : List ℕ) (f : X → List ℕ) (xs : List X) (k : ℕ) (x : X)
    → slice_get xs k ≡ Some x
    → front ++ flat_map f (take (k + 1) xs) ≡ (front ++ flat_map f (take k xs)) ++ f x
first_more front f xs k x found =
    ap (λ ys. front ++ flat_map f ys)
    (take_more xs k x (slice_get_within xs k x found)
    ∙ ap (λ y. take k xs ++ y ∷ []) (get_or_from_slice_get xs k x x found))
    ∙ sym (flat_map_more f front (take k xs) x)

-- after the last element there are no more
pub first_all : {X : Type 0} (xs : List X) (k most : ℕ) → slice_get xs k ≡ None → k ≤ most → take k xs ≡ take most xs
first_all [] zero zero none less = refl
first_all [] zero (suc most) none less = refl
first_all [] (suc k) zero none less = refl
first_all [] (suc k) (suc most) none less = refl
first_all (x ∷ xs) zero most none less = absurd cc
first_all (x ∷ xs) (suc k) zero none less = absurd (omega arith)
first_all (x ∷ xs) (suc k) (suc most) none less = ap (λ ys. x ∷ ys) (first_all xs k most none (omega arith))

-- what a loop over the first elements adds
pub ruleset firsts = (first_more, first_all)

-- a text is whole once the first element's is added to what is done
pub rest_more : {X : Type 0} (f : X → List ℕ) (rest xs : List X) (x : X) (whole done after : List ℕ)
    → rest ≡ x ∷ xs
    → whole ≡ done ++ flat_map f rest
    → after ≡ done ++ f x
    → whole ≡ after ++ flat_map f xs
rest_more f rest xs x whole done after is h put =
    h ∙ ap (λ ys. done ++ flat_map f ys) is ∙ sym (append_assoc done (f x) (flat_map f xs))
    ∙ ap (λ text. text ++ flat_map f xs) (sym put)

-- a text is whole if no element is left
pub rest_end : {X : Type 0} (f : X → List ℕ) (rest : List X) (whole done : List ℕ)
    → length rest ≡ 0
    → whole ≡ done ++ flat_map f rest
    → done ≡ whole
rest_end f [] whole done none h = sym (h ∙ append-nil done)
rest_end f (x ∷ xs) whole done none h = absurd (omega arith)

-- two pieces, one after another
pub two_more : (t u v a b : List ℕ) → u ≡ t ++ a → v ≡ u ++ b → v ≡ t ++ (a ++ b)
two_more t u v a b h i = rw (i, h) (append_assoc t a b)

-- three pieces
pub three_more : (t u v w a b d : List ℕ) → u ≡ t ++ a → v ≡ u ++ b → w ≡ v ++ d → w ≡ t ++ ((a ++ b) ++ d)
three_more t u v w a b d h i j = rw (j, i, h) (simp append_assoc)

-- four pieces
pub four_more : (t u v w x a b d e : List ℕ) → u ≡ t ++ a → v ≡ u ++ b → w ≡ v ++ d → x ≡ w ++ e
    → x ≡ t ++ (((a ++ b) ++ d) ++ e)
four_more t u v w x a b d e h i j k = rw (k, j, i, h) (simp append_assoc)

-- five pieces
pub five_more : (t u v w x y a b d e f : List ℕ) → u ≡ t ++ a → v ≡ u ++ b → w ≡ v ++ d → x ≡ w ++ e → y ≡ x ++ f
    → y ≡ t ++ ((((a ++ b) ++ d) ++ e) ++ f)
five_more t u v w x y a b d e f h i j k l = rw (l, k, j, i, h) (simp append_assoc)
