use Rattle.proto.proofs.GrammarLaws.{whole_stays_whole}
use Rattle.proto.proofs.laws.whole_stays_whole.Goals as goal

-- a whole request at the front stays there, whatever bytes follow
pub returns : goal.returns
returns c = whole_stays_whole
