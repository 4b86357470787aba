-- A list without its first element that passes a test: what isn't left is that one.
use Rattle.std.proofs.Common.{◌≡◌, suc, Bool, true, false, cond, List, [], ◌∷◌, Option, Some, sym, ap, ◌⊎◌, inl, inr}
use Rattle.std.specs.Prelude.{find}
use Rattle.node.specs.Servers.{without_first}
use Rattle.node.proofs.Lists.{In, in_more}

out_step : {X : Type 0} (b : Bool) (y x : X) (ys rest : List X) (f : Option X)
    → In x (y ∷ ys)
    → (In x ys → In x rest ⊎ (f ≡ Some x))
    → In x (cond b ys (y ∷ rest)) ⊎ (cond b (Some y) f ≡ Some x)
out_step true y x ys rest f h g = elim (in_more y ys x h) [ inl same ↦ inr (ap Some (sym same)) | inr more ↦ inl more ]
out_step false y x ys rest f h g = elim (in_more y ys x h) [
  | inl same ↦ inl (0, ap Some (sym same))
  | inr more ↦ elim (g more) [ inl k ↦ inl (suc k.0, k.1) | inr e ↦ inr e ]
]

-- what isn't left is the first that passes
pub out_or_in : {X : Type 0} (test : X → Bool) (xs : List X) (x : X)
    → In x xs
    → In x (without_first test xs) ⊎ (find test xs ≡ Some x)
out_or_in test [] x h = inl h
out_or_in test (y ∷ ys) x h = out_step (test y) y x ys _ _ h (out_or_in test ys x)
