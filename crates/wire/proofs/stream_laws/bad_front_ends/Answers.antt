use Rattle.wire.proofs.EndLaws.{malformed_ends, old_ends}
use Rattle.wire.proofs.stream_laws.bad_front_ends.Goals as goal

-- at a bad front no frame is left, and the stream ends so
pub returns-clause-malformed : goal.returns-clause-malformed
returns-clause-malformed c = malformed_ends

-- at an older server's front no frame is left, and the stream ends so
pub returns-clause-old : goal.returns-clause-old
returns-clause-old c = old_ends
