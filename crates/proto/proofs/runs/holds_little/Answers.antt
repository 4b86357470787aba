use Rattle.proto.proofs.HoldLaws.{holds_little}
use Rattle.proto.proofs.runs.holds_little.Goals as goal

-- an open session with no turn to give holds less than a line and a block of the largest size
pub returns : goal.returns
returns c = holds_little
