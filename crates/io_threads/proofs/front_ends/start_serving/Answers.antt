use denote.Exit.{no}
use denote.Param.{copied, param}
use denote.Param.Send.{arg_send, param_send}
use Rattle.io_threads.proofs.Sent.{thread_parts_send}
use Rattle.io_threads.specs.contracts.loops.ThreadParts as ThreadParts
use Rattle.io_threads.proofs.front_ends.start_serving.Goals as goal

pub start_thread-requires-send-K : goal.start_thread-requires-send-K
start_thread-requires-send-K g c κs = λ told.
    param_send 1 _
    (arg_send _ no (ThreadParts.the_row (copied 0 g.row.R) (param 1 g.row.T) (param 2 g.row.G))
    (thread_parts_send (copied 0 g.row.R) (param 1 g.row.T) (param 2 g.row.G) c.type_bounds.send-R
    c.type_bounds.send-T c.type_bounds.sync-T c.type_bounds.send-G))
