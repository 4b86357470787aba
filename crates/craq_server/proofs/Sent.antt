-- What the threads of a server share, and what they begin with, may go to each of them, if the program's handle may.
use denote.RattleType.{RattleType}
use denote.Param.Send.{IsSend, IsSync, sendable}
use denote.Param.SendFields.{declared_send, declared_sync, variants_send}
use Rattle.std.proofs.Crossing.{crosses, frees, Arc-send, Arc-sync, Vec-send, Vec-sync}
use Rattle.std.proofs.alloc.Global.TheSendSync as heap
use Rattle.std.proofs.net.tcp.TcpStream.TheSendSync as stream
use Rattle.server_guards.proofs.Sent.{output_permit_send, shared, shared_send, shared_sync}
use Rattle.server_guards.proofs.marks.Mark.TheSendSync as mark
use Rattle.lines.proofs.line_senders.LineSender.TheSendSync as line_sender
use Rattle.boxcar.proofs.Sent.{tag_send}
use Rattle.std.specs.contracts.net.tcp.TcpStream as tcp
use Rattle.std.specs.contracts.net.tcp.TcpStreamWrite.TheImpl.{ghosts}
use Rattle.ends.specs.contracts.failures.Failures as Failures
use Rattle.ends.specs.contracts.sinks.TrackedWriter as TrackedWriter
use Rattle.node.specs.contracts.views.View as View
use Rattle.wire.specs.contracts.frames.Frame as Frame
use Rattle.rail.specs.contracts.inlets.Inlet as Inlet
use Rattle.rail.proofs.inbox.SenderWithPass.TheSendSync as inbox_sender
use Rattle.link_streams.specs.contracts.received_streams.ReceivedStream as ReceivedStream
use Rattle.links.specs.contracts.ghost_lists.GhostList as GhostList
use Rattle.links.specs.contracts.incoming_links.IncomingLink as IncomingLink
use Rattle.links.specs.contracts.notices.Notices as Notices
use Rattle.links.specs.contracts.peer_connections.PeerConnection as PeerConnection
use Rattle.links.specs.contracts.speakers.Speaker as Speaker
use Rattle.links.specs.contracts.speakers.Who as Who
use Rattle.craq_server.specs.contracts.reported_connections.ReportedConnection as ReportedConnection
use Rattle.io_threads.specs.contracts.loop_handles.LoopHandles as LoopHandles
use Rattle.io_threads.proofs.loop_handles.LoopHandles.TheSendSync as loop_handles
use Rattle.links.proofs.peer_ports.PeerPort.TheSendSync as peer_ports
use Rattle.peers.proofs.peer_readers.PeerReader.TheSendSync as reader
use Rattle.links.specs.contracts.peer_ports.PeerPort as PeerPort
use Rattle.craq_server.specs.contracts.arrivals.Arrivals as Arrivals
use Rattle.craq_server.specs.contracts.guests.Guest as Guest
use Rattle.craq_server.specs.contracts.guests.GuestRoom as GuestRoom
use Rattle.craq_server.specs.contracts.guests.PeerGuests as PeerGuests
use Rattle.craq_server.specs.contracts.link_keepers.LinkKeeper as LinkKeeper
use Rattle.craq_server.specs.contracts.link_threads.LinkThread as LinkThread
use Rattle.craq_process.specs.declared.scheduled_links.ScheduledLinks as Scheduled
use Rattle.rail.specs.declared.links.Links as Links
use Rattle.mio.proofs.event.events.Events.TheSendSync as events
use Rattle.mio.proofs.poll.Poll.TheSendSync as poll
use Rattle.craq_server.specs.contracts.server_links.ServerLinks as ServerLinks
use Rattle.std.specs.contracts.option.Option as Option
use Rattle.bytes.proofs.unique.BytesMut.TheSendSync as bytes_mut
use Rattle.ends.specs.contracts.passages.Passed as Passed
use Rattle.craq_process.specs.contracts.schedulers.Scheduler as Scheduler
use Rattle.craq_process.proofs.schedulers.Scheduler.TheSendSync as scheduler
use Rattle.craq_server.proofs.link_keepers.LinkKeeper.TheSendSync as keeper
use Rattle.link_streams.specs.contracts.sent_streams.SentStream as SentStream
use Rattle.links.specs.contracts.peer_links.PeerLink as PeerLink
use Rattle.links.specs.contracts.peer_links.PeerLinks as PeerLinks
use Rattle.craq_server.specs.contracts.link_mailboxes.LinkMailbox as LinkMailbox
use Rattle.craq_server.specs.contracts.link_mailboxes.LinkMailboxes as LinkMailboxes
use Rattle.craq_server.specs.contracts.link_mailboxes.LinkNews as LinkNews
use Rattle.craq_server.specs.contracts.link_mailboxes.NewConnection as NewConnection
use Rattle.craq_server.specs.contracts.link_sockets.LinkSocket as LinkSocket
use Rattle.craq_server.specs.contracts.peer_streams.PeerStreams as PeerStreams
use Rattle.craq_server.specs.contracts.peer_listeners.PeerListener as PeerListener
use Rattle.craq_server.proofs.arrivals.Arrivals.TheSendSync as arrivals
use Rattle.craq_server.proofs.greeters.Greeter.TheSendSync as greeter
use Rattle.craq_server.proofs.received_links.ReceivedLinks.TheSendSync as incoming
use Rattle.craq_server.proofs.link_bells.LinkBell.TheSendSync as link_bell
use Rattle.craq_server.proofs.pending_connections.PendingConnections.TheSendSync as pending_connections

-- what writes to a stream, and counts what it took
abbrev written : RattleType
written = TrackedWriter.the_row tcp.the_row ghosts

written_send : IsSend written
written_send = search (sendable, crosses, stream.the_send, tag_send) depth 20

inlet_send : IsSend Inlet.the_row
inlet_send = search (sendable, crosses, inbox_sender.the_field_send) depth 20

received_send : IsSend ReceivedStream.the_row
received_send = search (sendable, crosses) depth 20

incoming_link_send : IsSend IncomingLink.the_row
incoming_link_send = let inlet = inlet_send in let received = received_send in search (sendable, declared_send) depth 20

notices_send : IsSend Notices.the_row
notices_send = search (sendable, crosses) depth 20

who_send : IsSend Who.the_row
who_send = let link = incoming_link_send in let notices = notices_send in search (sendable, variants_send) depth 20

-- who speaks
speaker_send : IsSend Speaker.the_row
speaker_send = let who = who_send in search (sendable, declared_send) depth 20

-- what was taken of it, for contracts alone
taken_send : IsSend (GhostList.the_row Frame.the_row)
taken_send = search (sendable, crosses) depth 20

failures_send : IsSend Failures.the_row
failures_send = search (sendable, crosses, tag_send) depth 20

view_send : IsSend View.the_row
view_send = search (sendable, crosses) depth 20

passed_send : IsSend Passed.the_row
passed_send = search (sendable, crosses, tag_send) depth 20

sent_stream_send : IsSend SentStream.the_row
sent_stream_send =
    let put = passed_send in
    search (sendable, crosses, heap.the_field_send, bytes_mut.the_send, heap.the_send, heap.the_sync) depth 20

module _ (R : RattleType) (r : IsSend R) (s : IsSync R) where
  -- where a link is written
  socket_send : IsSend (LinkSocket.the_row R)
  socket_send = search (sendable, crosses, output_permit_send, mark.the_field_send) depth 20

  new_connection_send : IsSend (NewConnection.the_row R)
  new_connection_send = search (sendable, declared_send, socket_send) depth 20

  news_send : IsSend (LinkNews.the_row R)
  news_send = search (sendable, crosses, new_connection_send) depth 20

  mailbox_send : IsSend (LinkMailbox.the_row R)
  mailbox_send = search (sendable, crosses, declared_send, news_send) depth 20

  mailbox_sync : IsSync (LinkMailbox.the_row R)
  mailbox_sync = search (sendable, crosses, declared_sync, news_send) depth 20

  mailboxes_send : IsSend (LinkMailboxes.the_row R)
  mailboxes_send =
      let mailboxes = Vec-send (LinkMailbox.the_row R) mailbox_send in
      search (sendable, crosses, link_bell.the_field_send) depth 20

  mailboxes_sync : IsSync (LinkMailboxes.the_row R)
  mailboxes_sync =
      let mailboxes = Vec-sync (LinkMailbox.the_row R) mailbox_sync in
      search (sendable, crosses, link_bell.the_field_sync) depth 20

  connections_send : IsSend (PeerStreams.the_row R)
  connections_send =
      let lease = Arc-send shared shared_send shared_sync in
      let mailboxes = Arc-send (LinkMailboxes.the_row R) mailboxes_send mailboxes_sync in
      search (sendable, crosses, mark.the_send, mark.the_field_send, link_bell.the_field_send, incoming.the_field_send) depth 20

  connections_sync : IsSync (PeerStreams.the_row R)
  connections_sync =
      let lease = Arc-sync shared shared_send shared_sync in
      let mailboxes = Arc-sync (LinkMailboxes.the_row R) mailboxes_send mailboxes_sync in
      search (sendable, crosses, mark.the_sync, mark.the_field_sync, link_bell.the_field_sync, incoming.the_field_sync) depth 20

  shared_port_send : IsSend (PeerPort.the_row (PeerStreams.the_row R))
  shared_port_send = peer_ports.the_send (PeerStreams.the_row R) connections_send

  shared_port_sync : IsSync (PeerPort.the_row (PeerStreams.the_row R))
  shared_port_sync = peer_ports.the_sync (PeerStreams.the_row R) connections_sync

  -- one who was accepted, and is answered there
  peer_connection_send : IsSend (PeerConnection.the_row (PeerStreams.the_row R) written)
  peer_connection_send =
      let shared_port = Arc-send (PeerPort.the_row (PeerStreams.the_row R)) shared_port_send shared_port_sync in
      let output = written_send in
      let who = speaker_send in
      let taken = taken_send in
      let failures = failures_send in
      let view = view_send in
      search (sendable, heap.the_field_send) depth 20

  reported_send : IsSend (ReportedConnection.the_row (PeerConnection.the_row (PeerStreams.the_row R) written))
  reported_send =
      let connection = peer_connection_send in
      search (sendable, crosses, declared_send, link_bell.the_field_send) depth 20

  -- another server that speaks
  guest_send : IsSend (Guest.the_row R)
  guest_send =
      let shared_port = Arc-send (PeerPort.the_row (PeerStreams.the_row R)) shared_port_send shared_port_sync in
      declared_send (Guest.the_type R) (
        search sendable,
        (
          search sendable,
          (
            Arc-send tcp.the_row stream.the_send stream.the_sync,
            (
              search (sendable, crosses, reader.the_send),
              (
                search sendable,
                (
                  search sendable,
                  (reported_send, (search (sendable, crosses), tt)),
                ),
              ),
            ),
          ),
        ),
      )

  guest_room_send : IsSend (GuestRoom.the_row R)
  guest_room_send =
      let guests = Vec-send (Guest.the_row R) guest_send in
      let handed = Arc-send LoopHandles.the_row loop_handles.the_send loop_handles.the_sync in
      search (sendable, crosses, heap.the_field_send) depth 20

  guest_room_sync : IsSync (GuestRoom.the_row R)
  guest_room_sync =
      let guests = Vec-send (Guest.the_row R) guest_send in
      let handed = Arc-sync LoopHandles.the_row loop_handles.the_send loop_handles.the_sync in
      search (sendable, crosses, heap.the_field_sync) depth 20

  -- what the threads of a peer port share may go to another thread
  pub shared_parts_send : IsSend (PeerListener.the_row R)
  shared_parts_send =
      let shared_port = Arc-send (PeerPort.the_row (PeerStreams.the_row R)) shared_port_send shared_port_sync in
      let arrived = Arc-send Arrivals.the_row arrivals.the_send arrivals.the_sync in
      let guests = Arc-send (GuestRoom.the_row R) guest_room_send guest_room_sync in
      search (
        sendable,
        heap.the_field_send,
        pending_connections.the_field_send,
        greeter.the_field_send,
        line_sender.the_field_send,
      ) depth 20

  -- and be used by several
  pub shared_parts_sync : IsSync (PeerListener.the_row R)
  shared_parts_sync =
      let shared_port = Arc-sync (PeerPort.the_row (PeerStreams.the_row R)) shared_port_send shared_port_sync in
      let arrived = Arc-sync Arrivals.the_row arrivals.the_send arrivals.the_sync in
      let guests = Arc-sync (GuestRoom.the_row R) guest_room_send guest_room_sync in
      search (
        sendable,
        heap.the_field_sync,
        pending_connections.the_field_sync,
        greeter.the_field_sync,
        line_sender.the_field_sync,
      ) depth 20

  option_guest_send : IsSend (Option.the_row (Guest.the_row R))
  option_guest_send = search (sendable, guest_send) depth 20

  -- the guests of the thread that reads them
  pub peer_guests_send : IsSend (PeerGuests.the_row R)
  peer_guests_send =
      let room = Arc-send (GuestRoom.the_row R) guest_room_send guest_room_sync in
      let shared_port = Arc-send (PeerPort.the_row (PeerStreams.the_row R)) shared_port_send shared_port_sync in
      search (sendable, crosses, option_guest_send, line_sender.the_field_send) depth 20

  peer_link_send : IsSend (PeerLink.the_row (LinkSocket.the_row R))
  peer_link_send = let stream = sent_stream_send in search (sendable, declared_send, socket_send) depth 20

  peer_links_send : IsSend (PeerLinks.the_row (LinkSocket.the_row R))
  peer_links_send =
      let links = Vec-send (PeerLink.the_row (LinkSocket.the_row R)) peer_link_send in
      search (sendable, crosses) depth 20

  -- a server's links
  pub server_links_send : IsSend (ServerLinks.the_row R)
  server_links_send =
      let links = peer_links_send in
      let mailboxes = Arc-send (LinkMailboxes.the_row R) mailboxes_send mailboxes_sync in
      search (sendable, declared_send) depth 20

  module _ (g : Scheduled.Ghosts (ServerLinks.the_row R).Denot) (h : Links.Ghosts (ServerLinks.the_row R).Denot) where
    -- who takes the server's turns
    pub scheduler_send : IsSend (Scheduler.the_row R (ServerLinks.the_row R) g h)
    scheduler_send = scheduler.the_send R (ServerLinks.the_row R) g h r server_links_send

    pub scheduler_sync : IsSync (Scheduler.the_row R (ServerLinks.the_row R) g h)
    scheduler_sync = scheduler.the_sync R (ServerLinks.the_row R) g h r server_links_send

    -- who looks after its links
    pub link_thread_send : IsSend (LinkThread.the_row R g h)
    link_thread_send =
        let shared_port = Arc-send (PeerPort.the_row (PeerStreams.the_row R)) shared_port_send shared_port_sync in
        let turns = Arc-send (Scheduler.the_row R (ServerLinks.the_row R) g h) scheduler_send scheduler_sync in
        let keepers = Vec-send LinkKeeper.the_row keeper.the_send in
        search (
          sendable,
          crosses,
          heap.the_field_send,
          poll.the_field_send,
          events.the_field_send,
          line_sender.the_field_send,
          frees,
        ) depth 20
