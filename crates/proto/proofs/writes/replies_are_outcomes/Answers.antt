use Rattle.proto.proofs.WriteLaws.{replies_are_outcomes}
use Rattle.proto.proofs.writes.replies_are_outcomes.Goals as goal

-- if no call was refused, the texts are those of the replies
pub returns : goal.returns
returns c = replies_are_outcomes
