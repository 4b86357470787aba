-- What stands at a place.
use Rattle.std.proofs.Common.{◌≡◌, ◌≢◌, ◌∙◌, ℕ, zero, suc, ◌<◌, ◌≤◌, List, [], ◌∷◌, Option, None, Some, length, map}
use Rattle.std.proofs.Common.{slice_index_or, slice_set, refl, ap, arith}
use Rattle.rail.specs.Inlets.{InletState}
use Rattle.links.specs.declared.incoming_links.WaitingLink.{WaitingLink}
use Rattle.links.specs.GreeterInlets.{inlet_in}
use Rattle.links.specs.IncomingLinks.{first_of}
use Rattle.links.specs.Waiting.{at_place}

-- what is read at a place stands there
pub stands_at : {A : Type 0} (place : ℕ) (xs : List (Option A)) (d : Option A) → place < length xs
    → slice_index_or xs place d ≡ at_place xs place
stands_at place [] d within = absurd (omega (arith, within))
stands_at zero (x ∷ xs) d within = refl
stands_at (suc place) (x ∷ xs) d within = stands_at place xs d (omega (arith, within))

-- nothing stands at a place from which it was taken
pub empty_at : {A : Type 0} (place : ℕ) (xs : List (Option A)) → place < length xs
    → at_place (slice_set xs place None) place ≡ None
empty_at place [] within = refl
empty_at zero (x ∷ xs) within = refl
empty_at (suc place) (x ∷ xs) within = empty_at place xs (omega (arith, within))

-- what is put at a place stands there
pub put_there : {A : Type 0} (place : ℕ) (xs : List (Option A)) (y : Option A) → place < length xs
    → at_place (slice_set xs place y) place ≡ y
put_there place [] y within = absurd (omega (arith, within))
put_there zero (x ∷ xs) y within = refl
put_there (suc place) (x ∷ xs) y within = put_there place xs y (omega (arith, within))

-- what stands at the other places stays
pub others_stay : {A : Type 0} (place : ℕ) (xs : List (Option A)) (y : Option A) (j : ℕ) → j ≢ place
    → at_place (slice_set xs place y) j ≡ at_place xs j
others_stay place [] y j other = refl
others_stay zero (x ∷ xs) y zero other = absurd (other refl)
others_stay zero (x ∷ xs) y (suc j) other = refl
others_stay (suc place) (x ∷ xs) y zero other = refl
others_stay (suc place) (x ∷ xs) y (suc j) other = others_stay place xs y j (λ same. other (ap suc same))

-- nothing stands beyond the last place
pub none_beyond : {A : Type 0} (place : ℕ) (xs : List (Option A)) → length xs ≤ place
    → at_place xs place ≡ None
none_beyond place [] beyond = refl
none_beyond zero (x ∷ xs) beyond = absurd (omega (arith, beyond))
none_beyond (suc place) (x ∷ xs) beyond = none_beyond place xs (omega (arith, beyond))

first_there : (inlets : List (Option InletState)) (j : ℕ)
    → at_place (map first_of inlets) j ≡ first_of (at_place inlets j)
first_there [] j = refl
first_there (inlet ∷ inlets) zero = refl
first_there (inlet ∷ inlets) (suc j) = first_there inlets j

inlet_of_first : (inlet : Option InletState) → inlet_in (first_of inlet) ≡ inlet
inlet_of_first None = refl
inlet_of_first (Some inlet) = refl

-- at first a link stands at each place at which there is an inlet
pub first_at : (links : List (Option WaitingLink)) (inlets : List (Option InletState)) (j : ℕ)
    → links ≡ map first_of inlets
    → at_place links j ≡ first_of (at_place inlets j)
first_at links inlets j are = ap (λ xs. at_place xs j) are ∙ first_there inlets j

-- and its inlet is that one
pub first_inlet_at : (links : List (Option WaitingLink)) (inlets : List (Option InletState)) (j : ℕ)
    → links ≡ map first_of inlets
    → inlet_in (at_place links j) ≡ at_place inlets j
first_inlet_at links inlets j are = ap inlet_in (first_at links inlets j are) ∙ inlet_of_first (at_place inlets j)
