use Rattle.std.proofs.Common.{◌≡◌, length}
use Rattle.integration.proofs.world_tests.scenes.other_row.Given as goal

abbrev pub invariant-loop-row : goal.invariant-loop-row
invariant-loop-row l = length l.scene.world.connections ≡ l.connections
