use Rattle.proto.proofs.SameLaws.{answer_keeps_turns}
use Rattle.proto.proofs.streams.answer_keeps_turns.Goals as goal

-- an answer keeps the turns to come
pub returns : goal.returns
returns c = answer_keeps_turns
