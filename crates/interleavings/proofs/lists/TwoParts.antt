-- A run in two parts, and a list in two parts.
use Rattle.std.proofs.Common.{◌≡◌, ◌⊎◌, ℕ, zero, suc, ◌+◌, List, [], ◌∷◌, ◌++◌, length, take, Some, refl, arith, ap}
use Rattle.std.proofs.Common.{◌∙◌, inl, inr, zero-add}
use Rattle.std.specs.Prelude.{slice_get}
use Rattle.interleavings.specs.Chains.{Chain}
use Rattle.interleavings.specs.Moves.{Move, done, moved_from}

-- one part after the other
pub moved_from-append : (l : Chain) (ms ns : List Move) → moved_from l (ms ++ ns) ≡ moved_from (moved_from l ms) ns
moved_from-append l [] ns = refl
moved_from-append l (m ∷ ms) ns = moved_from-append (done l m) ms ns

-- the first part, and some first ones of the second
pub take_past : {X : Type 0} (xs ys : List X) (k : ℕ) → take (length xs + k) (xs ++ ys) ≡ xs ++ take k ys
take_past [] ys k = ap (λ n. take n ys) (zero-add k)
take_past (x ∷ xs) ys k =
    let e : suc (length xs) + k ≡ suc (length xs + k) = omega arith in
    ap (λ n. take n (x ∷ (xs ++ ys))) e ∙ ap (λ zs. x ∷ zs) (take_past xs ys k)

-- what stands in the whole stands in one of the parts
pub split_get : {X : Type 0} (xs ys : List X) (i : ℕ) (x : X)
    → slice_get (xs ++ ys) i ≡ Some x
    → (slice_get xs i ≡ Some x) ⊎ ((k : ℕ) × (i ≡ length xs + k) × (slice_get ys k ≡ Some x))
split_get [] ys i x e = inr (i, omega arith, e)
split_get (y ∷ xs) ys zero x e = inl e
split_get (y ∷ xs) ys (suc i) x e = elim (split_get xs ys i x e) [
  | inl here ↦ inl here
  | inr there ↦ inr (there.0, omega (arith, there.1), there.2)
]

-- and what stands in the second stands in the whole
pub get_behind : {X : Type 0} (xs ys : List X) (k : ℕ) → slice_get (xs ++ ys) (length xs + k) ≡ slice_get ys k
get_behind [] ys k = (let e : 0 + k ≡ k = omega arith in ap (slice_get ys) e)
get_behind (x ∷ xs) ys k =
    let e : suc (length xs) + k ≡ suc (length xs + k) = omega arith in
    ap (slice_get (x ∷ (xs ++ ys))) e ∙ get_behind xs ys k
