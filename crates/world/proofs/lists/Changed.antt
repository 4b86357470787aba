-- A list of connections of which one was changed.
use Rattle.std.proofs.Common.{◌≡◌, ◌≢◌, ℕ, zero, suc, List, [], ◌∷◌, Some, refl, ap, None}
use Rattle.std.specs.Prelude.{slice_get}
use Rattle.std.proofs.lemmas.Option.{same_Some}
use Rattle.world.specs.Connections.{Connection, changed_at}

-- the changed one
pub changed_same : (ks : List Connection) (c : ℕ) (change : Connection → Connection) (k : Connection)
    → slice_get ks c ≡ Some k
    → slice_get (changed_at ks c change) c ≡ Some (change k)
changed_same [] c change k h = absurd cc
changed_same (x ∷ ks) zero change k h = ap (λ y. Some (change y)) (same_Some x k h)
changed_same (x ∷ ks) (suc c) change k h = changed_same ks c change k h

-- any other one
pub changed_other : (ks : List Connection) (c : ℕ) (change : Connection → Connection) (d : ℕ)
    → d ≢ c
    → slice_get (changed_at ks c change) d ≡ slice_get ks d
changed_other [] c change d other = refl
changed_other (x ∷ ks) zero change zero other = absurd (other refl)
changed_other (x ∷ ks) zero change (suc d) other = refl
changed_other (x ∷ ks) (suc c) change zero other = refl
changed_other (x ∷ ks) (suc c) change (suc d) other = changed_other ks c change d (λ e. other (ap suc e))

-- a place without a connection stays so
pub none_changed : (ks : List Connection) (c d : ℕ) (change : Connection → Connection)
    → slice_get ks c ≡ None
    → slice_get (changed_at ks d change) c ≡ None
none_changed [] c d change h = h
none_changed (k ∷ ks) zero zero change h = absurd cc
none_changed (k ∷ ks) zero (suc d) change h = absurd cc
none_changed (k ∷ ks) (suc c) zero change h = h
none_changed (k ∷ ks) (suc c) (suc d) change h = none_changed ks c d change h
