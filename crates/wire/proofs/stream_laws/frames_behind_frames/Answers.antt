use Rattle.wire.proofs.EndLaws.{frames_behind, end_behind}
use Rattle.wire.proofs.stream_laws.frames_behind_frames.Goals as goal

-- frames that follow one another from the front are the first ones of the stream
pub returns-clause-frames : goal.returns-clause-frames
returns-clause-frames c = frames_behind

-- the stream's end is that of the bytes after them
pub returns-clause-end : goal.returns-clause-end
returns-clause-end c = end_behind
