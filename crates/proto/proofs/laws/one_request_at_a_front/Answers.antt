use Rattle.proto.proofs.GrammarLaws.{one_request_at_a_front}
use Rattle.proto.proofs.laws.one_request_at_a_front.Goals as goal

-- no bytes begin with the spellings of two requests
pub returns : goal.returns
returns c = one_request_at_a_front
