use Rattle.std.proofs.Common.{◌≡◌}
use Rattle.chain_status.specs.Roles.{last_below}
use Rattle.chain_status.proofs.roles.last_below.Given as goal

-- the last one of those so far
abbrev pub invariant-loop-i : goal.invariant-loop-i
invariant-loop-i l = l.last ≡ last_below l.gone l.i
