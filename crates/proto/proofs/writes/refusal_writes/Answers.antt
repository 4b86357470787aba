use Rattle.proto.proofs.WriteLaws.{refusal_writes, refusal_idle}
use Rattle.proto.proofs.writes.refusal_writes.Goals as goal

-- a refusal writes its line in the call's form, and no call is open then
pub returns : goal.returns
returns c = record { text = refusal_writes; idle = refusal_idle }
