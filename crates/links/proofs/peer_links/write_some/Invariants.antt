use Rattle.std.proofs.Common.{◌≡◌, length}
use Rattle.link_streams.specs.Streams.{unwritten}
use Rattle.links.specs.PeerLinks.{WritesSome}
use Rattle.links.proofs.peer_links.write_some.Given as goal

-- so many bytes are left, and some were written
abbrev pub invariant-loop-left : goal.invariant-loop-left
invariant-loop-left g l = record {
  left : l.left ≡ length (unwritten l.stream);
  some : WritesSome g.W.LinkSink.taken l.fn.stream l.stream l.fn.sink l.sink;
}

abbrev pub decreases-loop-left : goal.decreases-loop-left
decreases-loop-left g l = l.left
