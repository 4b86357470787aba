-- Places in a row, and what its parts have, joined.
use Rattle.std.proofs.Common.{◌≡◌, ◌≢◌, suc, List, [], ◌∷◌, refl, arith, ◌⊎◌, inl, inr}
use Rattle.std.specs.List.{flat_map}
use Rattle.interleavings.specs.Rows.{PartName, IsPart, IsBefore}

module _ (p : PartName) (ps : List PartName) where
  -- the first part
  pub first_part : IsPart (p ∷ ps) p
  first_part = record { place = 0; here = refl }

  -- stands before the others
  pub first_before : (q : PartName) → IsPart ps q → IsBefore (p ∷ ps) p q
  first_before q h =
      record { place = 0; later_place = suc h.place; earlier = omega arith; here = refl; there = h.here }

  -- which stand as they do without it
  pub other_part : (q : PartName) → IsPart ps q → IsPart (p ∷ ps) q
  other_part q h = record { place = suc h.place; here = h.here }

  -- also before each other
  pub others_before : (q r : PartName) → IsBefore ps q r → IsBefore (p ∷ ps) q r
  others_before q r h = record {
    place = suc h.place;
    later_place = suc h.later_place;
    earlier = let l = h.earlier in omega (arith, l);
    here = h.here;
    there = h.there;
  }

-- there is something
nonempty : {X : Type 0} (x : X) (xs : List X) → x ∷ xs ≢ []
nonempty x xs e = cc

-- no part of these has anything, or one has
pub none_or_some : {X : Type 0} (f : PartName → List X) (ps : List PartName)
    → (flat_map f ps ≡ []) ⊎ ((q : PartName) × IsPart ps q × (f q ≢ []))
none_or_some f [] = inl refl
none_or_some f (p ∷ ps) = by (f p) refl (none_or_some f ps)
  where
    by : (xs : List _)
        → f p ≡ xs
        → (flat_map f ps ≡ []) ⊎ ((q : PartName) × IsPart ps q × (f q ≢ []))
        → (flat_map f (p ∷ ps) ≡ []) ⊎ ((q : PartName) × IsPart (p ∷ ps) q × (f q ≢ []))
    by [] e (inl none) = inl (rw e none)
    by [] e (inr some) = inr (some.0, other_part p ps some.0 some.1, some.2)
    by (x ∷ xs) e h = inr (p, first_part p ps, λ none. nonempty x xs (rw (← e) none))
