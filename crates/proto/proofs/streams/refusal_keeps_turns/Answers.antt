use Rattle.proto.proofs.SameLaws.{refusal_keeps_turns}
use Rattle.proto.proofs.streams.refusal_keeps_turns.Goals as goal

-- a refusal keeps the turns to come
pub returns : goal.returns
returns c = refusal_keeps_turns
