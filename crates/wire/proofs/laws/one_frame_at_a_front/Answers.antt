use Rattle.wire.proofs.FrontLaws.{one_frame}
use Rattle.wire.proofs.laws.one_frame_at_a_front.Goals as goal

-- at most one frame stands at the front of a stream
pub returns : goal.returns
returns c = one_frame
