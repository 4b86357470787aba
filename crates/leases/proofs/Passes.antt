-- A pass over a list that writes each element, and one that puts an element for each number.
use Rattle.std.proofs.Common.{◌≡◌, ℕ, ◌+◌, ◌<◌, ◌≤◌, List, [], ◌∷◌, ◌++◌, length, map, take, drop, set, get_or}
use Rattle.std.proofs.Common.{sym, ap, ◌∙◌, arith, rules}
use Rattle.std.specs.List.{range_with_len}
use Rattle.std.proofs.lemmas.List.{take_all, drop_all}
use Rattle.std.proofs.lemmas.List.Edits.{map_over_more}
use Rattle.std.proofs.lemmas.List.FromFn.{map-range_with_len_more}

-- one element more is written
pub written_more : {X : Type 0} (f : X → X) (xs ys : List X) (i : ℕ) (x new : X)
    → i < length xs
    → ys ≡ map f (take i xs) ++ drop i xs
    → x ≡ get_or ys i x
    → new ≡ f (get_or ys i x)
    → set ys i new ≡ map f (take (i + 1) xs) ++ drop (i + 1) xs
written_more f xs ys i x new within so_far read is =
    ap (λ y. set ys i y) (is ∙ ap f (sym read)) ∙ map_over_more f xs ys i x within so_far read

-- all of them are
pub written_all : {X : Type 0} (f : X → X) (xs ys : List X) (i : ℕ)
    → length xs ≤ i
    → ys ≡ map f (take i xs) ++ drop i xs
    → ys ≡ map f xs
written_all f xs ys i past so_far = search (rules, take_all, drop_all)

-- one element more is put
pub put_more : {X : Type 0} (f : ℕ → X) (xs ys : List X) (n : ℕ) (new : X)
    → xs ≡ map f (range_with_len 0 n)
    → new ≡ f n
    → ys ≡ xs ++ new ∷ []
    → ys ≡ map f (range_with_len 0 (n + 1))
put_more f xs ys n new so_far is pushed =
    pushed ∙ ap (λ zs. zs ++ new ∷ []) so_far ∙ ap (λ y. map f (range_with_len 0 n) ++ y ∷ []) is
    ∙ sym (map-range_with_len_more f 0 n n (omega arith))
