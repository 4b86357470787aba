use Rattle.proto.proofs.WriteLaws.{next_writes}
use Rattle.proto.proofs.writes.next_writes.Goals as goal

-- a fault's line is written as its turn is given, and a call writes nothing
pub returns : goal.returns
returns c = next_writes
