-- Seats and senders of calls may go to another thread.
use denote.Param.Send.{IsSend, sendable}
use Rattle.std.proofs.Crossing.{crosses, Vec-send}
use Rattle.rail.specs.contracts.call_notes.CallNote as CallNote
use Rattle.rail.specs.contracts.call_senders.CallSender as CallSender
use Rattle.rail.specs.contracts.seats.Seat as Seat
use Rattle.rail.proofs.inbox.SenderWithPass.TheSendSync as inbox_sender
use Rattle.rail.proofs.reply_channels.ReplyReceiver.TheSendSync as reply_receiver

call_note_send : IsSend CallNote.the_row
call_note_send = search (sendable, crosses) depth 20

pub call_sender_send : IsSend CallSender.the_row
call_sender_send = search (sendable, crosses, inbox_sender.the_field_send) depth 20

pub seat_send : IsSend Seat.the_row
seat_send =
    let calls = Vec-send CallNote.the_row call_note_send in
    search (sendable, crosses, reply_receiver.the_field_send) depth 20
