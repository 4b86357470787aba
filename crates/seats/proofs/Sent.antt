-- A pool of seats may go to another thread.
use denote.Param.Send.{IsSend, sendable}
use Rattle.boxcar.proofs.Sent.{tag_send}
use Rattle.std.proofs.Crossing.{crosses, Deque-send, Vec-send}
use Rattle.ends.specs.contracts.failures.Failures as Failures
use Rattle.faces.proofs.readers.Reader.TheSendSync as reader
use Rattle.rail.proofs.Sent.{call_sender_send, seat_send}
use Rattle.server_guards.proofs.gauges.Gauge.TheSendSync as gauge
use Rattle.server_guards.proofs.marks.Mark.TheSendSync as mark
use Rattle.seats.specs.contracts.seat_pools.SeatPool as SeatPool
use Rattle.seats.specs.contracts.submitters.Submitter as Submitter
use Rattle.seats.proofs.submitters.SubmitterStage.TheSendSync as kind

-- a seat may go to another thread
submitter_send : IsSend Submitter.the_row
submitter_send = search (sendable, crosses, seat_send, kind.the_field_send) depth 20

-- a count that contracts alone see may go to another thread
failures_send : IsSend Failures.the_row
failures_send = search (sendable, crosses, tag_send) depth 20

-- a pool of seats may go to another thread
pub seat_pool_send : IsSend SeatPool.the_row
seat_pool_send =
    let free = Vec-send Submitter.the_row submitter_send in
    let left = Deque-send Submitter.the_row submitter_send in
    search (
      sendable,
      crosses,
      reader.the_send,
      call_sender_send,
      mark.the_field_send,
      gauge.the_field_send,
      failures_send,
    ) depth 20
