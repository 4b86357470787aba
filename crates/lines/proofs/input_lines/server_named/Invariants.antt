use Rattle.std.proofs.Common.{ℕ, ◌<◌, ◌≢◌, decimal}
use Rattle.lines.proofs.input_lines.server_named.Given as goal

-- it is none of the numbers so far
abbrev pub invariant-loop-j : goal.invariant-loop-j
invariant-loop-j l = (k : ℕ) → k < l.j → l.named ≢ decimal k
