use Rattle.std.proofs.Common.{length}
use Rattle.node.specs.Faces.{IsQueued}
use Rattle.faces.proofs.Waiting.{IsBetween}
use Rattle.faces.proofs.tombstones.take_away.Given as goal

abbrev pub invariant-loop-first : goal.invariant-loop-first
invariant-loop-first l = record {
  queued : IsQueued l.versions l.tombstones.items;
  between : IsBetween l.acked l.initial.versions l.versions;
}

abbrev pub decreases-loop-first : goal.decreases-loop-first
decreases-loop-first l = length l.tombstones.items
