-- A seat that answers calls may go to another thread.
use denote.Param.Send.{IsSend, sendable}
use Rattle.boxcar.proofs.Sent.{tag_send}
use Rattle.std.proofs.Crossing.{crosses}
use Rattle.ends.specs.contracts.failures.Failures as Failures
use Rattle.faces.proofs.readers.Reader.TheSendSync as reader
use Rattle.rail.proofs.Sent.{call_sender_send, seat_send}
use Rattle.seats.specs.contracts.seat_callers.SeatCaller as SeatCaller
use Rattle.server_guards.proofs.marks.Mark.TheSendSync as mark

failures_send : IsSend Failures.the_row
failures_send = search (sendable, crosses, tag_send) depth 20

pub seat_caller_send : IsSend SeatCaller.the_row
seat_caller_send =
    search (
      sendable,
      crosses,
      reader.the_send,
      seat_send,
      call_sender_send,
      mark.the_field_send,
      failures_send,
    ) depth 20
