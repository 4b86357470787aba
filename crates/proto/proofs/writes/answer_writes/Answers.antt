use Rattle.proto.proofs.WriteLaws.{answer_writes, answer_idle}
use Rattle.proto.proofs.writes.answer_writes.Goals as goal

-- an answer writes the reply's text in the call's form, and no call is open then
pub returns : goal.returns
returns c = record { text = answer_writes; idle = answer_idle }
