-- The bytes by which a server, or the master, introduces itself (docs/FORMATS.md, "Peer messages").
use Rattle.std.specs.Prelude.{ℕ, Bool, true, false, List, ◌++◌}
use Rattle.wire.specs.declared.frames.Frame.{Frame}
use Rattle.wire.specs.declared.frames.Frame.TheVariants as frames
use Rattle.wire.specs.Spellings.{spelling}
use Rattle.peers.specs.declared.identities.Identity.{Identity}

-- bytes, and then a frame's spelling if it was added
abbrev pub added_if : Bool → List ℕ → Frame → List ℕ
added_if true bytes frame = bytes ++ spelling frame
added_if false bytes frame = bytes

-- how it introduces itself, after its Hello
abbrev pub introduction_of : Identity → Frame
introduction_of identity = frames.Introduction (record {
  servers = identity.servers;
  start = identity.start;
  chain = identity.chain;
})

-- both
abbrev pub greeting : Identity → List ℕ
greeting identity = spelling (frames.Hello identity.id) ++ spelling (introduction_of identity)
