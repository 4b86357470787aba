use Rattle.proto.proofs.StreamLaws.{faults_take_bytes}
use Rattle.proto.proofs.streams.faults_take_bytes.Goals as goal

-- a fault takes a byte at least, of the unread or of a block that was passed over
pub returns : goal.returns
returns c = faults_take_bytes
