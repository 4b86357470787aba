use Rattle.std.proofs.Common.{◌≡◌, length}
use Rattle.integration.proofs.world_tests.scenes.replay.Given as goal

abbrev pub invariant-loop-event : goal.invariant-loop-event
invariant-loop-event l = length l.scene.world.connections ≡ length l.fn.scene.world.connections
