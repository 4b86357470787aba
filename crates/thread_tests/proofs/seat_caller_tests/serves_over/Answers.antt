use denote.Exit.{no}
use denote.Param.Send.{arg_send, param_send}
use Rattle.seats.specs.contracts.seat_callers.SeatCaller as SeatCaller
use Rattle.thread_tests.proofs.Sent.{seat_caller_send}
use Rattle.thread_tests.proofs.seat_caller_tests.serves_over.Goals as goal

pub serve_seats-served-requires-send-C : goal.serve_seats-served-requires-send-C
serve_seats-served-requires-send-C g c κs = λ told. param_send 1 _ (arg_send _ no SeatCaller.the_row seat_caller_send)
