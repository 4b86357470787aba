use Rattle.proto.proofs.RunLaws.{any_cutting}
use Rattle.proto.proofs.runs.any_cutting.Goals as goal

-- the turns that were given, and those still to come, are those of all bytes as one stream
pub returns : goal.returns
returns c = any_cutting
