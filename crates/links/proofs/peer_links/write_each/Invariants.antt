use Rattle.std.proofs.Common.{◌≡◌, length, take}
use Rattle.links.specs.PeerLinks.{HaveWritten, some_waits}
use Rattle.links.proofs.peer_links.write_each.Given as goal

-- the links so far have written, and one of them waits, or none
abbrev pub invariant-loop-place : goal.invariant-loop-place
invariant-loop-place g l = record {
  written : HaveWritten g.W.LinkSink.taken l.place l.initial.links.items l.links.items;
  waits : l.waits ≡ some_waits (take l.place l.links.items);
  many : length l.links.items ≡ length l.initial.links.items;
}
