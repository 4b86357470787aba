use Rattle.std.proofs.Common.{◌≡◌, ℕ, ◌<◌, ◌≤◌, false}
use Rattle.master_decisions.specs.Knowledge.{is_living}
use Rattle.master_decisions.specs.ServerSets.{is_among}
use Rattle.master_decisions.proofs.knowledge.Knowledge.living.Given as goal

-- those so far are among them as they pass, and no others
abbrev pub invariant-loop-i : goal.invariant-loop-i
invariant-loop-i l = record {
  so_far : (k : ℕ) → k < l.i → is_among l.living k ≡ is_living l.self k;
  others : (k : ℕ) → l.i ≤ k → is_among l.living k ≡ false;
}
