use Rattle.wire.proofs.EndLaws.{frames_are_first, no_more, input_is, is_input, malformed_is, is_malformed, old_is}
use Rattle.wire.proofs.EndLaws.{is_old}
use Rattle.wire.proofs.stream_laws.stream_is_its_frames.Goals as goal

-- the frames of a stream follow one another from its front
pub returns-clause-frames : goal.returns-clause-frames
returns-clause-frames c = frames_are_first

-- no frame stands after the frames of a stream
pub returns-clause-no_more : goal.returns-clause-no_more
returns-clause-no_more c = no_more

-- a stream ends with its input exactly if what stands after its frames isn't whole
pub returns-clause-input : goal.returns-clause-input
returns-clause-input c = λ bytes fits. (input_is bytes fits, is_input bytes fits)

-- a stream ends in a bad front exactly if one stands after its frames
pub returns-clause-malformed : goal.returns-clause-malformed
returns-clause-malformed c = λ bytes fits. (malformed_is bytes fits, is_malformed bytes)

-- a stream ends in an older server's front exactly if one stands after its frames
pub returns-clause-old : goal.returns-clause-old
returns-clause-old c = λ bytes. (old_is bytes, is_old bytes)
