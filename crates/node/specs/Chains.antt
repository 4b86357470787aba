-- The order of the chain in a view, said by what lies between (CRAQ, "Chain Replication"; that a chain is ordered by
-- ids is this project's rule).
use Rattle.std.specs.Prelude.{◌≡◌, ℕ, ◌<◌, ◌≤◌, true, false}
use Rattle.node.specs.Views.{View, has}

-- j is the nearest server outside the view from k on
pub record IsNext (v : View) (k j : ℕ) : Type 0 where
  pub above : k ≤ j
  pub out : has v j ≡ false
  pub between : (x : ℕ) → k ≤ x → x < j → has v x ≡ true

-- p is the nearest server outside the view below i
pub record IsPredecessor (v : View) (i p : ℕ) : Type 0 where
  pub below : p < i
  pub out : has v p ≡ false
  pub between : (x : ℕ) → p < x → x < i → has v x ≡ true
