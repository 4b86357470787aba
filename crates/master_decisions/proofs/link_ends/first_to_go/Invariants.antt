use Rattle.std.proofs.Common.{◌≡◌, ℕ, ◌<◌, ◌≤◌}
use Rattle.master_decisions.specs.LinkEnds.{weight}
use Rattle.master_decisions.proofs.link_ends.first_to_go.Given as goal

-- the last one of the heaviest so far
abbrev pub invariant-loop-j : goal.invariant-loop-j
invariant-loop-j l = record {
  most : (k : ℕ) → k < l.j → weight l.links.said l.living l.heard k ≤ l.most;
  last : (k : ℕ) → k < l.j → weight l.links.said l.living l.heard k ≡ l.most → k ≤ l.heaviest;
  own : 0 < l.most → weight l.links.said l.living l.heard l.heaviest ≡ l.most;
}
