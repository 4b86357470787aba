use Rattle.std.proofs.Common.{◌≡◌, ℕ, ◌<◌, ◌≤◌, false}
use Rattle.master_decisions.specs.Presence.{answers_at}
use Rattle.master_decisions.specs.ServerSets.{is_among}
use Rattle.master_decisions.proofs.presence.Presence.answering.Given as goal

-- those so far are among them as they pass, and no others
abbrev pub invariant-loop-i : goal.invariant-loop-i
invariant-loop-i l = record {
  so_far : (k : ℕ) → k < l.i → is_among l.answering k ≡ answers_at l.self.heard l.now l.beat k;
  others : (k : ℕ) → l.i ≤ k → is_among l.answering k ≡ false;
}
