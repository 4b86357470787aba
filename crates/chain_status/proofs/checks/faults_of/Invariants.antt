use Rattle.std.proofs.Common.{◌≡◌}
use Rattle.chain_status.specs.Checks.{faults_below}
use Rattle.chain_status.proofs.checks.faults_of.Given as goal

-- those of the chain, and of the servers so far
abbrev pub invariant-loop-i : goal.invariant-loop-i
invariant-loop-i l = l.found.items ≡ faults_below l.earlier l.look l.i
