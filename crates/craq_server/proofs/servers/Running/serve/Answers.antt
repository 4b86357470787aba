use denote.Exit.{no}
use denote.Param.{copied}
use denote.Param.Send.{arg_send, arg_sync, param_send, param_sync}
use Rattle.craq_process.specs.contracts.schedulers.Scheduler as Scheduler
use Rattle.craq_server.proofs.Sent.{link_thread_send, peer_guests_send, scheduler_send, scheduler_sync}
use Rattle.craq_server.specs.contracts.guests.PeerGuests as PeerGuests
use Rattle.craq_server.specs.contracts.link_threads.LinkThread as LinkThread
use Rattle.craq_server.specs.contracts.server_links.ServerLinks as ServerLinks
use Rattle.craq_server.proofs.servers.Running.serve.Goals as goal

pub start_link_thread-requires-send-K : goal.start_link_thread-requires-send-K
start_link_thread-requires-send-K g c κs within =
    let R = copied 0 g.row.R in
    param_send 1 _
    (arg_send _ no (LinkThread.the_row R _ _)
    (link_thread_send R c.type_bounds.send-R c.type_bounds.sync-R _ _))

pub serve_clients-requires-send-T : goal.serve_clients-requires-send-T
serve_clients-requires-send-T g c κs within =
    let R = copied 0 g.row.R in
    param_send 1 _
    (arg_send _ no (Scheduler.the_row R (ServerLinks.the_row R) _ _)
    (scheduler_send R c.type_bounds.send-R c.type_bounds.sync-R _ _))

pub serve_clients-requires-send-G : goal.serve_clients-requires-send-G
serve_clients-requires-send-G g c κs within =
    let R = copied 0 g.row.R in
    param_send 2 _
    (arg_send _ no (PeerGuests.the_row R) (peer_guests_send R c.type_bounds.send-R c.type_bounds.sync-R))

pub serve_clients-requires-sync-T : goal.serve_clients-requires-sync-T
serve_clients-requires-sync-T g c κs within =
    let R = copied 0 g.row.R in
    param_sync 1 _
    (arg_sync _ no (Scheduler.the_row R (ServerLinks.the_row R) _ _)
    (scheduler_sync R c.type_bounds.send-R c.type_bounds.sync-R _ _))
