use Rattle.proto.proofs.StreamLaws.{next_gives_first}
use Rattle.proto.proofs.streams.next_gives_first.Goals as goal

-- each step gives the first of the turns to come, and leaves the others, whatever bytes may follow
pub returns : goal.returns
returns c = next_gives_first
