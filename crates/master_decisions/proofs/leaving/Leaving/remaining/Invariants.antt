use Rattle.std.proofs.Common.{◌≡◌, ℕ, ◌<◌, ◌≤◌, false}
use Rattle.master_decisions.specs.Leaving.{remains}
use Rattle.master_decisions.specs.ServerSets.{is_among}
use Rattle.master_decisions.proofs.leaving.Leaving.remaining.Given as goal

-- those so far are among them as they pass, and no others
abbrev pub invariant-loop-i : goal.invariant-loop-i
invariant-loop-i l = record {
  so_far : (k : ℕ) → k < l.i → is_among l.remaining k ≡ remains l.self.told l.living k;
  others : (k : ℕ) → l.i ≤ k → is_among l.remaining k ≡ false;
}
