use Rattle.std.proofs.Common.{◌≡◌}
use Rattle.chain_status.specs.Checks.{version_below}
use Rattle.chain_status.proofs.checks.first_version.Given as goal

-- that of the first one so far
abbrev pub invariant-loop-i : goal.invariant-loop-i
invariant-loop-i l = l.first ≡ version_below l.look l.i
