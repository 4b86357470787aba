use Rattle.std.proofs.Common.{◌≡◌, ◌+◌, ◌<◌, ℕ, length}
use Rattle.hash_index.specs.Tables.{joined, bucket_at}
use Rattle.hash_index.specs.Retained.{IsRetained}
use Rattle.hash_index.proofs.hash_tables.retain_rows.Given as goal

-- the buckets up to here are what is left of them; the others are as they were
abbrev pub invariant-loop-i : goal.invariant-loop-i
invariant-loop-i g l = record {
  same : length l.rows ≡ length l.initial.rows;
  done : (j : ℕ) → j < l.i → IsRetained g.R.Retain.outcome (bucket_at l.initial.rows j) (bucket_at l.rows j);
  left : (j : ℕ) → (j < l.i → ⊥) → bucket_at l.rows j ≡ bucket_at l.initial.rows j;
  sum : l.gone + length (joined l.rows) ≡ length (joined l.initial.rows);
}
