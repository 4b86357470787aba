use Rattle.std.proofs.Common.{◌≡◌, ℕ, ◌<◌, None}
use Rattle.successions.specs.Decisions.{answering}
use Rattle.successions.proofs.decisions.Decision.find.Given as goal

-- none of those before answers with yes
abbrev pub invariant-loop-i : goal.invariant-loop-i
invariant-loop-i l = (k : ℕ) → k < l.i → answering l.self l.question k ≡ None
