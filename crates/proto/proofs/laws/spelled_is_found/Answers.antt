use Rattle.proto.proofs.GrammarLaws.{spelled_is_found}
use Rattle.proto.proofs.laws.spelled_is_found.Goals as goal

-- a request that is spelled at the front is found, whatever bytes follow
pub returns : goal.returns
returns c = spelled_is_found
