-- Lists over the numbers below one, and of copies, that grow at their end.
use Rattle.std.proofs.Common.{◌≡◌, true, false, append_assoc, append-nil, nat_eq, not, cond, ℕ, ◌+◌, List, [], ◌∷◌}
use Rattle.std.proofs.Common.{◌++◌, ap, sym, ◌∙◌, arith, zero, suc}
use Rattle.std.specs.Prelude.{flat_map}
use Rattle.std.specs.List.{repeat}
use Rattle.std.proofs.lemmas.List.{flat_map_more, map-id}
use Rattle.std.proofs.lemmas.List.FromFn.{map-range_with_len_more, filter_of_map_range_with_len_more}
use Rattle.schedules.specs.Settling.{first_numbers, pairs_with}

-- what a further number adds
pub one_more : {X : Type 0} (f : ℕ → List X) (n : ℕ)
    → flat_map f (first_numbers (n + 1)) ≡ flat_map f (first_numbers n) ++ f n
one_more f n = ap (flat_map f)
    (sym (map-id (first_numbers (n + 1))) ∙ map-range_with_len_more (λ i. i) 0 n n (omega arith)
    ∙ ap (λ front. front ++ n ∷ []) (map-id (first_numbers n))) ∙ sym (flat_map_more f [] (first_numbers n) n)

-- what a further server adds: a pair if it is another one, and nothing if it is the same
one_pair_more : (front : List (ℕ × ℕ)) (i j : ℕ)
    → front ++ pairs_with (j + 1) i ≡ (front ++ pairs_with j i) ++ cond (not (nat_eq i j)) ((i, j) ∷ []) []
one_pair_more front i j =
    ap (λ pairs. front ++ pairs)
    (filter_of_map_range_with_len_more (λ p. not (nat_eq p.0 p.1)) (λ k. (i, k)) 0 j j (omega arith))
    ∙ sym (append_assoc front (pairs_with j i) (cond (not (nat_eq i j)) ((i, j) ∷ []) []))

-- one more server is paired with this one, if it is another
pub other_more : (front : List (ℕ × ℕ)) (i j : ℕ)
    → nat_eq i j ≡ false
    → front ++ pairs_with (j + 1) i ≡ (front ++ pairs_with j i) ++ (i, j) ∷ []
other_more front i j other = rw other at (one_pair_more front i j)

-- a server isn't paired with itself
pub same_more : (front : List (ℕ × ℕ)) (i j : ℕ)
    → nat_eq i j ≡ true
    → front ++ pairs_with (j + 1) i ≡ front ++ pairs_with j i
same_more front i j same = rw same at (one_pair_more front i j) ∙ append-nil (front ++ pairs_with j i)

-- a further copy may stand at the end or in front
repeat_more : {X : Type 0} (n : ℕ) (xs : List X) → repeat n xs ++ xs ≡ xs ++ repeat n xs
repeat_more zero xs = sym (append-nil xs)
repeat_more (suc n) xs = append_assoc xs (repeat n xs) xs ∙ ap (λ copies. xs ++ copies) (repeat_more n xs)

-- what a further copy adds
pub one_copy_more : {X : Type 0} (front xs : List X) (n : ℕ) → (front ++ repeat n xs) ++ xs ≡ front ++ repeat (n + 1) xs
one_copy_more front xs n = let e : n + 1 ≡ suc n = omega arith in append_assoc front (repeat n xs) xs
    ∙ ap (λ copies. front ++ copies) (repeat_more n xs ∙ ap (λ k. repeat k xs) (sym e))
