use Rattle.std.proofs.Common.{◌≡◌, ℕ, ◌<◌, None}
use Rattle.master_decisions.specs.Notices.{refusal_at}
use Rattle.master_decisions.proofs.notices.refusal_in.Given as goal

-- none so far refuses the master
abbrev pub invariant-loop-i : goal.invariant-loop-i
invariant-loop-i l = (k : ℕ) → k < l.i → refusal_at l.answers k ≡ None
