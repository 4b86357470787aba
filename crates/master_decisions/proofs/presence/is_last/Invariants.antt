use Rattle.std.proofs.Common.{◌≡◌, ℕ, ◌<◌, true}
use Rattle.master_decisions.specs.ServerSets.{is_among}
use Rattle.master_decisions.proofs.presence.is_last.Given as goal

-- each one so far is among them
abbrev pub invariant-loop-i : goal.invariant-loop-i
invariant-loop-i l = (k : ℕ) → k < l.i → is_among l.others k ≡ true
