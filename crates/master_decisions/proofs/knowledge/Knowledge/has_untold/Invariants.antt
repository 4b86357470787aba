use Rattle.std.proofs.Common.{◌≡◌, ℕ, ◌<◌, false}
use Rattle.master_decisions.specs.Knowledge.{is_untold}
use Rattle.master_decisions.proofs.knowledge.Knowledge.has_untold.Given as goal

-- none so far is untold
abbrev pub invariant-loop-i : goal.invariant-loop-i
invariant-loop-i l = (k : ℕ) → k < l.i → is_untold l.self l.j k ≡ false
