use Rattle.std.proofs.Common.{◌≡◌, ℕ, ◌<◌, false}
use Rattle.successions.specs.Decisions.{answers}
use Rattle.successions.proofs.decisions.Decision.is_any.Given as goal

-- none of those before answers with yes
abbrev pub invariant-loop-i : goal.invariant-loop-i
invariant-loop-i l = (k : ℕ) → k < l.i → answers l.self l.question k ≡ false
