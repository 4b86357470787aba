use Rattle.proto.proofs.EndLaws.{keeps_end}
use Rattle.proto.proofs.streams.next_keeps_end.Goals as goal

-- each step leaves the end of the stream where it is
pub returns : goal.returns
returns c = keeps_end
