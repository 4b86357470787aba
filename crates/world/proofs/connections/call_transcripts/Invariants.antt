use Rattle.std.proofs.Common.{◌≡◌, ◌++◌, length}
use Rattle.std.specs.Vec.Iter.{into_iter_items}
use Rattle.world.specs.Transcripts.{calls_shown}
use Rattle.world.proofs.connections.call_transcripts.Given as goal

-- what is shown so far with what the calls that are left show is what all show
abbrev pub invariant-loop-call : goal.invariant-loop-call
invariant-loop-call l = l.shown.items ++ calls_shown (into_iter_items l.calls) (into_iter_items l.replies)
    ≡ calls_shown l.fn.calls.items l.fn.replies.items

-- each round one call less is left
abbrev pub decreases-loop-call : goal.decreases-loop-call
decreases-loop-call l = length (into_iter_items l.calls)
