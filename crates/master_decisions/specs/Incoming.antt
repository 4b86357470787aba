-- What comes from a server (docs/FORMATS.md, "Peer messages").
use Rattle.wire.specs.declared.frames.Frame.{Frame}
use Rattle.wire.specs.declared.frames.Frame.TheVariants as frames
use Rattle.master_decisions.specs.declared.incoming.Incoming.{Incoming}
use Rattle.master_decisions.specs.declared.incoming.Incoming.TheVariants.{Alive, Noted, Stalled, End}

-- a frame that may come after the greeting tells how the server is, that it has noted a notice, or which of its links
-- stand still
abbrev pub incoming_of : Frame → Incoming
incoming_of (frames.Alive alive) = Alive alive
incoming_of (frames.Noted id) = Noted id
incoming_of (frames.Stalled servers) = Stalled servers
incoming_of _ = End
