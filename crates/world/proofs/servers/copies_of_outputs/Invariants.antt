use Rattle.std.proofs.Common.{◌≡◌, take}
use Rattle.world.proofs.servers.copies_of_outputs.Given as goal

-- so far the first outputs were copied
abbrev pub invariant-loop-output : goal.invariant-loop-output
invariant-loop-output l = l.copies.items ≡ take l.output-index l.outputs
