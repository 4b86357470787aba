-- Numbers read from fields, one after another.
use Rattle.std.proofs.Common.{◌≡◌, ℕ, ◌+◌, ◌<◌, ◌≤◌, List, [], ◌∷◌, ◌++◌, length, map, drop, get_or, Option, None, Some}
use Rattle.std.proofs.Common.{option_map, option_and_then, refl, ap, sym, ◌∙◌, append_assoc, append-nil, add-one}
use Rattle.std.proofs.Common.{drop-cons}
use Rattle.std.proofs.lemmas.List.{drop_all}
use Rattle.schedules.specs.HeadLines.{numbers_below}
use Rattle.schedules.specs.Numbers.{number_in}

-- the numbers so far, and those of the fields that are left
abbrev pub read_on : ℕ → List ℕ → List (List ℕ) → Option (List ℕ)
read_on high numbers fields = option_map (λ more. numbers ++ more) (numbers_below high fields)

-- a number in front
in_front : (high n : ℕ) (numbers : List ℕ) (field : List ℕ) (o : Option (List ℕ))
    → option_map (λ more. numbers ++ more) (option_and_then (λ ns. Some (n ∷ ns)) o) ≡ option_map
    (λ more. (numbers ++ n ∷ []) ++ more) o
in_front high n numbers field None = refl
in_front high n numbers field (Some ns) = ap Some (sym (append_assoc numbers (n ∷ []) ns))

front_read : (high n : ℕ) (numbers field : List ℕ) (fields : List (List ℕ)) → Some n ≡ number_in 0 high field
    → read_on high numbers (field ∷ fields) ≡ read_on high (numbers ++ n ∷ []) fields
front_read high n numbers field fields is = rw (← is) (in_front high n numbers field (numbers_below high fields))

front_none : (high : ℕ) (numbers field : List ℕ) (fields : List (List ℕ))
    → None ≡ number_in 0 high field
    → read_on high numbers (field ∷ fields) ≡ None
front_none high numbers field fields is = rw (← is) refl

module _ {X : Type 0} (f : X → List ℕ) (high i : ℕ) (xs : List X) (numbers : List ℕ) (all : Option (List ℕ)) where
  left : (d : X) → i < length xs → map f (drop i xs) ≡ f (get_or xs i d) ∷ map f (drop (i + 1) xs)
  left d low = rw (add-one, drop-cons xs i d)

  -- one more field is a number
  pub one_more : (d : X) (n : ℕ) (now : List ℕ)
      → i < length xs
      → Some n ≡ number_in 0 high (f (get_or xs i d))
      → now ≡ numbers ++ n ∷ []
      → read_on high numbers (map f (drop i xs)) ≡ all → read_on high now (map f (drop (i + 1) xs)) ≡ all
  one_more d n now low is pushed before =
      ap (λ ns. read_on high ns (map f (drop (i + 1) xs))) pushed
      ∙ sym (front_read high n numbers (f (get_or xs i d)) (map f (drop (i + 1) xs)) is)
      ∙ ap (read_on high numbers) (sym (left d low)) ∙ before

  -- a field that isn't one
  pub no_number : (d : X)
      → i < length xs
      → None ≡ number_in 0 high (f (get_or xs i d))
      → read_on high numbers (map f (drop i xs)) ≡ all
      → None ≡ all
  no_number d low is before =
      sym (front_none high numbers (f (get_or xs i d)) (map f (drop (i + 1) xs)) is) ∙ ap (read_on high numbers)
      (sym (left d low)) ∙ before

  -- no field is left
  pub none_left : length xs ≤ i → read_on high numbers (map f (drop i xs)) ≡ all → Some numbers ≡ all
  none_left past before =
      let none : drop i xs ≡ [] = drop_all i xs past in
      ap Some (sym (append-nil numbers)) ∙ ap (λ ys. read_on high numbers (map f ys)) (sym none) ∙ before
