use Rattle.std.proofs.Common.{◌≡◌, length}
use Rattle.std.specs.Vec.Iter.{into_iter_items}
use Rattle.node.specs.Lawful.{AreFit}
use Rattle.world.specs.Worlds.{put_all}
use Rattle.world.proofs.worlds.World.put_all.Given as goal

-- putting what is left, in the world so far, is putting all
abbrev pub invariant-loop-output : goal.invariant-loop-output
invariant-loop-output l = record {
  rest : put_all l.self l.i (into_iter_items l.outputs) ≡ put_all l.fn.self l.fn.i l.fn.outputs.items;
  connections : length l.self.connections ≡ length l.fn.self.connections;
  fit : AreFit (into_iter_items l.outputs);
}

-- each round one output less is left
abbrev pub decreases-loop-output : goal.decreases-loop-output
decreases-loop-output l = length (into_iter_items l.outputs)
