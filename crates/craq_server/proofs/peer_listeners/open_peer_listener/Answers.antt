use denote.Exit.{no}
use denote.Param.{copied}
use denote.Param.Send.{arg_send, arg_sync, param_send, param_sync}
use Rattle.craq_server.proofs.Sent.{shared_parts_send, shared_parts_sync}
use Rattle.craq_server.specs.contracts.peer_listeners.PeerListener as PeerListener
use Rattle.craq_server.proofs.peer_listeners.open_peer_listener.Goals as goal

pub start_accepting-requires-send-D : goal.start_accepting-requires-send-D
start_accepting-requires-send-D g c κs = λ told.
    param_send 1 _
    (arg_send _ no (PeerListener.the_row (copied 0 g.row.R))
    (shared_parts_send (copied 0 g.row.R) c.type_bounds.send-R c.type_bounds.sync-R))

pub start_accepting-requires-sync-D : goal.start_accepting-requires-sync-D
start_accepting-requires-sync-D g c κs = λ told.
    param_sync 1 _
    (arg_sync _ no (PeerListener.the_row (copied 0 g.row.R))
    (shared_parts_sync (copied 0 g.row.R) c.type_bounds.send-R c.type_bounds.sync-R))
