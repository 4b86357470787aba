-- What a serving thread begins with may go to it.
use denote.RattleType.{RattleType}
use denote.Param.Send.{IsSend, IsSync, sendable}
use Rattle.std.proofs.Crossing.{crosses, frees, Arc-send, Vec-send}
use Rattle.std.proofs.alloc.Global.TheSendSync as heap
use Rattle.mio.proofs.event.events.Events.TheSendSync as events
use Rattle.mio.proofs.poll.Poll.TheSendSync as poll
use Rattle.seats.proofs.Sent.{seat_pool_send}
use Rattle.server_guards.proofs.Sent.{output_permit_send}
use Rattle.server_guards.proofs.marks.Mark.TheSendSync as mark
use Rattle.io_threads.proofs.loop_handles.LoopHandles.TheSendSync as loop_handles
use Rattle.io_threads.specs.contracts.loop_handles.LoopHandles as LoopHandles
use Rattle.io_threads.specs.contracts.loops.ThreadParts as ThreadParts
use Rattle.io_threads.specs.contracts.connection_tables.ConnectionTableParts as ConnectionTableParts

table_parts_send : IsSend ConnectionTableParts.the_row
table_parts_send = search (sendable, mark.the_field_send, seat_pool_send, output_permit_send) depth 20

-- what a thread begins with may go to it, if the program's handle, the turn scheduler and the guests may
pub thread_parts_send : (R T G : RattleType) → IsSend R → IsSend T → IsSync T → IsSend G
    → IsSend (ThreadParts.the_row R T G)
thread_parts_send R T G r t u g =
    let own = Vec-send ConnectionTableParts.the_row table_parts_send in
    let turn_scheduler = Arc-send T t u in
    let handed = Arc-send LoopHandles.the_row loop_handles.the_send loop_handles.the_sync in
    search (sendable, crosses, heap.the_field_send, poll.the_field_send, events.the_field_send, frees) depth 20
