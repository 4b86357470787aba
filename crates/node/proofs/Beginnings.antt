-- Beginnings of lists: what a list that begins another tells of both.
use Rattle.std.proofs.Common.{◌≡◌, ℕ, zero, suc, ◌+◌, ◌≤◌, List, [], ◌∷◌, ◌++◌, length, take, drop, Some, refl, arith}
use Rattle.std.proofs.Common.{inl, inr, zero-add}
use Rattle.std.specs.Prelude.{slice_get}
use Rattle.std.proofs.lemmas.Option.{same_Some, none-some as none_some}
use Rattle.node.proofs.Lists.{Begins, pushed_cases}

-- a list begins itself
pub begins_same : {X : Type 0} (xs : List X) → Begins xs xs
begins_same xs k x h = h

-- either list under another name
pub begins_as : {X : Type 0} (us xs ys vs : List X) → us ≡ xs → Begins xs ys → vs ≡ ys → Begins us vs
begins_as us xs ys vs e b f = rw (e, f) b

-- the empty list begins each list
pub begins_nil : {X : Type 0} (xs : List X) → Begins [] xs
begins_nil xs k x h = absurd (none_some x h)

-- a list with one more begins what has that one at its place
pub begins-push : {X : Type 0} (xs ys : List X) (y : X)
    → Begins xs ys
    → slice_get ys (length xs) ≡ Some y
    → Begins (xs ++ y ∷ []) ys
begins-push xs ys y b h k x e = elim (pushed_cases xs y k x e) [ inl old ↦ b k x old | inr new ↦ rw (new.0, new.1) h ]

-- a beginning is no longer than the whole
pub begins-length : {X : Type 0} (xs ys : List X) → Begins xs ys → length xs ≤ length ys
begins-length [] ys b = omega arith
begins-length (x ∷ xs) [] b = absurd (none_some x (b 0 x refl))
begins-length (x ∷ xs) (y ∷ ys) b = omega (arith, begins-length xs ys (λ k z h. b (suc k) z h))

-- a beginning that isn't shorter is the whole
pub begins-whole : {X : Type 0} (xs ys : List X) → Begins xs ys → length ys ≤ length xs → xs ≡ ys
begins-whole [] [] b l = refl
begins-whole [] (y ∷ ys) b l = absurd (omega arith)
begins-whole (x ∷ xs) [] b l = absurd (none_some x (b 0 x refl))
begins-whole (x ∷ xs) (y ∷ ys) b l =
    let first : y ≡ x = same_Some y x (b 0 x refl) in
    let rest : xs ≡ ys = begins-whole xs ys (λ k z h. b (suc k) z h) (omega arith) in
    cc

-- up to the shorter one's length both are the same
pub begins-take : {X : Type 0} (n : ℕ) (xs ys : List X) → Begins xs ys → n ≤ length xs → take n ys ≡ take n xs
begins-take zero xs ys b l = refl
begins-take (suc n) [] ys b l = absurd (omega arith)
begins-take (suc n) (x ∷ xs) [] b l = absurd (none_some x (b 0 x refl))
begins-take (suc n) (x ∷ xs) (y ∷ ys) b l =
    let first : y ≡ x = same_Some y x (b 0 x refl) in
    let rest : take n ys ≡ take n xs = begins-take n xs ys (λ k z h. b (suc k) z h) (omega arith) in
    cc

-- what stands in a list after its first n stands n places later in the whole
pub slice_get-drop : {X : Type 0} (n : ℕ) (xs : List X) (k : ℕ) → slice_get (drop n xs) k ≡ slice_get xs (n + k)
slice_get-drop zero xs k = rw zero-add refl
slice_get-drop (suc n) [] k = refl
slice_get-drop (suc n) (x ∷ xs) k = let s : suc n + k ≡ suc (n + k) = omega arith in rw s (slice_get-drop n xs k)
