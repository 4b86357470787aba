-- Which inlets of a server are whose.
use Rattle.std.specs.Prelude.{◌≡◌, ◌≢◌, ℕ, zero, suc, ◌<◌, ◌≤◌, List, [], ◌∷◌, ◌++◌, Option, None, length}
use Rattle.links.specs.Waiting.{at_place}
use Rattle.craq_process.specs.Wiring.{last_first}

-- what a function answers to 0, 1 and so on: this many
abbrev pub row : {A : Type 0} → ℕ → (ℕ → A) → List A
row zero f = []
row (suc n) f = f zero ∷ row n (λ j. f (suc j))

-- Of one server's inlets each other server took one, the last one that was left, and the server itself none. If one
-- took none, none is left.
pub record IsSeated {A : Type 0} (id : ℕ) (before after : List A) (taken : List (Option A)) : Type 0 where
  pub each : before ≡ after ++ last_first taken
  pub own : at_place taken id ≡ None
  pub whole : (j : ℕ) → j < length taken → j ≢ id → at_place taken j ≡ None → after ≡ []

-- Of one server's inlets, in a chain of this many, each other server has one at its place, and the masters have another
-- one. The server itself has none, and neither has any beyond the chain.
pub record IsPlaced {A : Type 0} (id servers : ℕ) (inlets : List A) (place : ℕ → Option A) (notices : A)
    : Type 0 where
  pub each : (rest : List A) × (inlets ≡ (rest ++ notices ∷ []) ++ last_first (row servers place))
  pub own : place id ≡ None
  pub others : (j : ℕ) → j < servers → j ≢ id → place j ≢ None
  pub beyond : (j : ℕ) → servers ≤ j → place j ≡ None
