use Rattle.proto.proofs.GrammarLaws.{found_is_spelled}
use Rattle.proto.proofs.laws.found_is_spelled.Goals as goal

-- a request that is found is spelled by exactly the bytes that it takes
pub returns : goal.returns
returns c = found_is_spelled
