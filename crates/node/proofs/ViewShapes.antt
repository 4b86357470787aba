-- Neighbours in a view, a server at a time.
use Rattle.std.proofs.Common.{◌≡◌, ℕ, suc, ◌+◌, ◌-◌, ◌<◌, ◌≤◌, cond, None, Some, refl, arith, subst, sym}
use Rattle.node.specs.Views.{View, has, next_from, predecessor}

next_suc : (v : View) (i many : ℕ) → next_from v i (suc many) ≡ cond (has v i) (next_from v (suc i) many) (Some i)
unfolding next_from
next_suc v i many = refl

next_zero : (v : View) (i : ℕ) → next_from v i 0 ≡ None
unfolding next_from
next_zero v i = refl

-- the nearest server from i on: i if the view leaves it, otherwise that from the next one on
pub next_within : (v : View) (i count : ℕ)
    → i < count
    → next_from v i (count - i) ≡ cond (has v i) (next_from v (i + 1) (count - (i + 1))) (Some i)
next_within v i count l =
    let a : count - i ≡ suc (count - (i + 1)) = omega arith in
    let b : i + 1 ≡ suc i = omega arith in
    rw a (rw b (next_suc v i (count - suc i)))

-- past the last server there is none
pub next_past : (v : View) (i count : ℕ) → count ≤ i → next_from v i (count - i) ≡ None
next_past v i count l = let a : count - i ≡ 0 = omega arith in rw a (next_zero v i)

predecessor_suc : (v : View) (k : ℕ) → predecessor v (suc k) ≡ cond (has v k) (predecessor v k) (Some k)
unfolding predecessor
predecessor_suc v k = refl

none_below : (v : View) → predecessor v 0 ≡ None
unfolding predecessor
none_below v = refl

-- before server 0 there is none
pub predecessor_zero : (v : View) (k : ℕ) → k ≤ 0 → predecessor v k ≡ None
predecessor_zero v k h = let e : k ≡ 0 = omega arith in rw e (none_below v)

-- the nearest server below k: the one before k if the view leaves it, otherwise that below this one
pub predecessor_more : (v : View) (k : ℕ)
    → 0 < k
    → predecessor v k ≡ cond (has v (k - 1)) (predecessor v (k - 1)) (Some (k - 1))
predecessor_more v k l = let e : k ≡ suc (k - 1) =
    omega arith in subst (λ n. predecessor v n ≡ cond (has v (k - 1)) (predecessor v (k - 1)) (Some (k - 1))) (sym e)
    (predecessor_suc v (k - 1))
