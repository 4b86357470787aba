use Rattle.std.proofs.Common.{◌≡◌, ◌++◌, length, map}
use Rattle.std.specs.Vec.Iter.{into_iter_items}
use Rattle.world.specs.Transcripts.{connection_shown}
use Rattle.world.proofs.transcripts.connection_transcripts.Given as goal

-- what is shown so far with what the connections that are left show is what all show
abbrev pub invariant-loop-connection : goal.invariant-loop-connection
invariant-loop-connection l =
    l.shown.items ++ map connection_shown (into_iter_items l.connections) ≡ map connection_shown l.fn.connections.items

-- each round one connection less is left
abbrev pub decreases-loop-connection : goal.decreases-loop-connection
decreases-loop-connection l = length (into_iter_items l.connections)
