-- What a list that another begins with has in common with it.
use Rattle.std.proofs.Common.{◌≡◌, ℕ, zero, suc, ◌<◌, List, [], ◌∷◌, length, take, Some, refl, arith, sym, ◌∙◌}
use Rattle.std.specs.Prelude.{slice_get}
use Rattle.std.proofs.lemmas.List.{take_all}
use Rattle.std.proofs.lemmas.Option.{same_Some}
use Rattle.node.proofs.Lists.{Begins}
use Rattle.node.proofs.Beginnings.{begins-take}

-- a place below the length has an element
pub found_below : {X : Type 0} (xs : List X) (k : ℕ) → k < length xs → (x : X) × (slice_get xs k ≡ Some x)
found_below [] k h = absurd (omega arith)
found_below (x ∷ xs) zero h = (x, refl)
found_below (x ∷ xs) (suc k) h = found_below xs k (omega arith)

-- what stands in the longer list below the end of the shorter stands there too
pub begins_back : {X : Type 0} (xs ys : List X) (k : ℕ) (y : X)
    → Begins xs ys
    → slice_get ys k ≡ Some y
    → k < length xs
    → slice_get xs k ≡ Some y
begins_back xs ys k y b h l =
    let f = found_below xs k l in
    let e : y ≡ f.0 = same_Some y f.0 (sym h ∙ b k f.0 f.1) in
    rw e f.1

-- a beginning is a `take` of its own length
pub begins_taken : {X : Type 0} (xs ys : List X) → Begins xs ys → take (length xs) ys ≡ xs
begins_taken xs ys b = begins-take (length xs) xs ys b (omega arith) ∙ take_all (length xs) xs (omega arith)
