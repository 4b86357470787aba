use Rattle.wire.proofs.EndLaws.{none_yet, one_more, then_frames, more_behind}
use Rattle.wire.proofs.stream_laws.one_frame_more.Goals as goal

-- at first no frame has been handed on
pub returns-clause-none : goal.returns-clause-none
returns-clause-none c = none_yet

-- one frame more from the front of the unread bytes is handed on
pub returns-clause-frame : goal.returns-clause-frame
returns-clause-frame c = one_more

-- a piece more comes after the unread bytes
pub returns-clause-piece : goal.returns-clause-piece
returns-clause-piece c = more_behind

-- several frames more from the front of the unread bytes are handed on
pub returns-clause-frames : goal.returns-clause-frames
returns-clause-frames c = then_frames
