use Rattle.std.proofs.Common.{◌≡◌, take}
use Rattle.chain_status.specs.Faults.{standing_of}
use Rattle.chain_status.proofs.standings.standing_of.Given as goal

-- how the faults so far have it
abbrev pub invariant-loop-fault : goal.invariant-loop-fault
invariant-loop-fault l = l.standing ≡ standing_of (take l.fault-index l.found)
