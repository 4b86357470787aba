-- The master: it tells the servers that live which one has failed (this project's rule).
use Rattle.std.specs.Prelude.{ℕ, zero, suc, Bool, not, ◌&&◌, nat_lt, List, [], ◌∷◌, if◌then◌else◌}
use Rattle.node.specs.Views.{View, has, union, single}

-- the number of servers, and those that have failed so far
pub record MasterState : Type 0 where
  pub count : ℕ
  pub gone : View

-- a notice (i, j) for each of the n servers from i on that lives
unfoldable pub notices_from : View → ℕ → ℕ → ℕ → List (ℕ × ℕ)
notices_from gone j i zero = []
notices_from gone j i (suc many) =
    if has gone i then notices_from gone j (suc i) many else (i, j) ∷ notices_from gone j (suc i) many

-- the notice that server j has failed has an effect: j is of the chain, and wasn't known to have failed
abbrev pub is_news : MasterState → ℕ → Bool
is_news m j = nat_lt j m.count && not (has m.gone j)

-- one notice for each other server that lives, in the order of their ids
abbrev pub notices : MasterState → ℕ → List (ℕ × ℕ)
notices m j = if is_news m j then notices_from (union m.gone (single j)) j 0 m.count else []

-- the master from then on
abbrev pub told : MasterState → ℕ → MasterState
told m j = if is_news m j then record m { gone = union m.gone (single j) } else m
