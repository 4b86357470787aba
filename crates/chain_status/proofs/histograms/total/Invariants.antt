use Rattle.std.proofs.Common.{◌≡◌, ◌≤◌, ◌*◌, ◌^◌, take}
use Rattle.std.specs.Prelude.{sum}
use Rattle.chain_status.proofs.histograms.total.Given as goal

-- the sum so far, which is small enough
abbrev pub invariant-loop-count : goal.invariant-loop-count
invariant-loop-count l = record {
  same : l.total ≡ sum (take l.count-index l.counts);
  small : l.total ≤ l.count-index * 2 ^ 64;
}
