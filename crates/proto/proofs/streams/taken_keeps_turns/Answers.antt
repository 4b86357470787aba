use Rattle.proto.proofs.SameLaws.{taken_keeps_turns}
use Rattle.proto.proofs.streams.taken_keeps_turns.Goals as goal

-- output that is taken away keeps the turns to come
pub returns : goal.returns
returns c = taken_keeps_turns
