use Rattle.std.proofs.Common.{◌≡◌, ℕ, ◌<◌, false}
use Rattle.master_decisions.specs.Knowledge.{is_living}
use Rattle.master_decisions.proofs.knowledge.Knowledge.has_living.Given as goal

-- none so far lives
abbrev pub invariant-loop-i : goal.invariant-loop-i
invariant-loop-i l = (k : ℕ) → k < l.i → is_living l.self k ≡ false
