-- What may hold back a server's output.
use Rattle.std.specs.Prelude.{Bool}
use Rattle.std.specs.Arc.{arc_value}
use Rattle.craq_server.specs.declared.peer_streams.PeerStreams.{PeerStreams}

-- whether the server's lease has a term, so that it may end
abbrev pub may_end : {R : Type 0} → PeerStreams R → Bool
may_end connections = (arc_value connections.lease).is_timed
