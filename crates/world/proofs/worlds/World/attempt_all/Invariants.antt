use Rattle.std.proofs.Common.{take}
use Rattle.world.specs.LivingParts.{IsFailingRun}
use Rattle.world.proofs.worlds.World.attempt_all.Given as goal

-- so far these events have happened or been refused
abbrev pub invariant-loop-ordinal : goal.invariant-loop-ordinal
invariant-loop-ordinal l = IsFailingRun l.fn.self (take l.ordinal l.events) l.refused.items l.self
