use Rattle.std.proofs.Common.{◌≡◌, ℕ, ◌<◌, ◌≤◌, false}
use Rattle.master_decisions.specs.Notices.{is_silent_at}
use Rattle.master_decisions.specs.ServerSets.{is_among}
use Rattle.master_decisions.proofs.notices.silent_in.Given as goal

-- those so far are among them as they are silent, and no others
abbrev pub invariant-loop-i : goal.invariant-loop-i
invariant-loop-i l = record {
  so_far : (k : ℕ) → k < l.i → is_among l.silent k ≡ is_silent_at l.answers l.gone k;
  others : (k : ℕ) → l.i ≤ k → is_among l.silent k ≡ false;
}
