use Rattle.std.proofs.Common.{◌≢◌, ℕ, ◌<◌, get_or, Contains}
use Rattle.successions.proofs.decisions.are_ended.Given as goal

-- those before have ended
abbrev pub invariant-loop-process : goal.invariant-loop-process
invariant-loop-process l = (k : ℕ) → k < l.process-index → get_or l.processes k 0 ≢ 0
    → Contains l.ended (get_or l.processes k 0)
