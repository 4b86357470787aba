use Rattle.wire.proofs.StreamLaws.{any_cutting}
use Rattle.wire.proofs.laws.any_cutting.Goals as goal

-- the frames that a reader gave, and has still to give, are those of all its bytes as one stream
pub returns : goal.returns
returns c = any_cutting
