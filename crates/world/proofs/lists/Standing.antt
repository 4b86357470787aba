-- What stands at a place of a list: of one that grows at its end, and of connections one of which changes.
use Rattle.std.proofs.Common.{◌≡◌, ◌≢◌, ◌⊎◌, ℕ, zero, suc, ◌<◌, List, [], ◌∷◌, length, Option, None, Some, refl, ap}
use Rattle.std.proofs.Common.{inl, inr, arith}
use Rattle.std.specs.Prelude.{slice_get, IsSome}
use Rattle.world.specs.Connections.{Connection, changed_at}

-- at a place below its length a list has an element
pub get_within : {X : Type 0} (xs : List X) (i : ℕ) → i < length xs → IsSome (slice_get xs i)
get_within [] i h = absurd (omega arith)
get_within (x ∷ xs) zero h = refl
get_within (x ∷ xs) (suc i) h = get_within xs i (omega arith)

-- an option that isn't empty holds something
pub some_of : {X : Type 0} (o : Option X) → IsSome o → (x : X) × (o ≡ Some x)
some_of None h = cc
some_of (Some x) h = (x, refl)

-- what stands at a place after a change stood there before, or is what the change made
pub changed_cases : (ks : List Connection) (c d : ℕ) (change : Connection → Connection) (new : Connection)
    → slice_get (changed_at ks c change) d ≡ Some new
    → ((d ≢ c) × (slice_get ks d ≡ Some new))
    ⊎ ((old : Connection) × (d ≡ c) × (slice_get ks c ≡ Some old) × (change old ≡ new))
changed_cases [] c d change new h = cc
changed_cases (k ∷ ks) zero zero change new h = inr (k, refl, refl, cc)
changed_cases (k ∷ ks) zero (suc d) change new h = inl ((λ e. absurd (omega arith)), h)
changed_cases (k ∷ ks) (suc c) zero change new h = inl ((λ e. absurd (omega arith)), h)
changed_cases (k ∷ ks) (suc c) (suc d) change new h =
    elim (changed_cases ks c d change new h) [
      | inl other ↦ inl ((λ e. other.0 (omega arith)), other.1)
      | inr same ↦ inr (same.0, ap suc same.1, same.2, same.3)
    ]

-- if a connection stands at a place after a change of one, one stood there before it
pub stood_before : (ks : List Connection) (c d : ℕ) (change : Connection → Connection) (new : Connection)
    → slice_get (changed_at ks c change) d ≡ Some new
    → (old : Connection) × (slice_get ks d ≡ Some old)
stood_before ks c d change new is =
    elim (changed_cases ks c d change new is) [
      | inl other ↦ (new, other.1)
      | inr same ↦ (same.0, rw same.1 same.2)
    ]
