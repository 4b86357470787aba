use Rattle.wire.proofs.FrameLengths.{frame_is_within, longest_there}
use Rattle.wire.proofs.laws.longest_frame.Goals as goal

-- no frame is longer than the longest
pub returns-clause-bound : goal.returns-clause-bound
returns-clause-bound c = frame_is_within

-- some frame is as long as the longest
pub returns-clause-reached : goal.returns-clause-reached
returns-clause-reached c = longest_there
