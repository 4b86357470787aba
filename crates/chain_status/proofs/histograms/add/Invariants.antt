use Rattle.std.proofs.Common.{◌≡◌, ◌≤◌, ◌<◌, ◌+◌, ℕ, length}
use Rattle.std.specs.Prelude.{slice_index}
use Rattle.chain_status.specs.Histograms.{capped}
use Rattle.chain_status.proofs.histograms.add.Given as goal

-- the places so far are added up, and the others are as they were
abbrev pub invariant-loop-k : goal.invariant-loop-k
invariant-loop-k l = record {
  added : (k : ℕ) → k < l.k → slice_index l.counts k ≡ capped (slice_index l.initial.counts k + slice_index l.others k);
  left : (k : ℕ) → l.k ≤ k → k < 16 → slice_index l.counts k ≡ slice_index l.initial.counts k;
}
