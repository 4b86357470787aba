use Rattle.wire.proofs.StreamLaws.{written_is_read}
use Rattle.wire.proofs.laws.written_is_read.Goals as goal

-- what was written is read again, whatever follows it, and however all of it is cut
pub returns : goal.returns
returns c = written_is_read
