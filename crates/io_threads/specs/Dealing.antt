-- Which serving thread gets the next connection.
use Rattle.std.specs.Prelude.{◌⊎◌, ◌<◌, ◌≤◌, ℕ, nat_lt, List, length, slice_index_or}
use Rattle.std.specs.List.{IsFirstBest}

-- how many connections a thread has, of these by thread
abbrev pub of_thread : List ℕ → ℕ → ℕ
of_thread connections thread = slice_index_or connections thread 0

-- This thread has fewer connections than `dense`, and none before it has.
pub record IsFirstBelow (dense : ℕ) (connections : List ℕ) (thread : ℕ) : Type 0 where
  pub is_one : thread < length connections
  pub below : of_thread connections thread < dense
  pub before : (k : ℕ) → k < thread → dense ≤ of_thread connections k

-- No thread has fewer than `dense`, and this is the first of those that have the fewest.
pub record IsFirstOfFewest (dense : ℕ) (connections : List ℕ) (thread : ℕ) : Type 0 where
  pub full : (k : ℕ) → k < length connections → dense ≤ of_thread connections k
  pub fewest : IsFirstBest nat_lt connections (length connections) thread

-- the thread that gets the next connection, if they have these: the first with fewer than `dense`, else the first of
-- those with the fewest
abbrev pub IsNext : ℕ → List ℕ → ℕ → Type 0
IsNext dense connections thread = IsFirstBelow dense connections thread ⊎ IsFirstOfFewest dense connections thread
