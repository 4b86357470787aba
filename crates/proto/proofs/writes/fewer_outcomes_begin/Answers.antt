use Rattle.proto.proofs.WriteLaws.{fewer_outcomes_begin}
use Rattle.proto.proofs.writes.fewer_outcomes_begin.Goals as goal

-- the texts of turns begin those of more turns, of whose calls more is known
pub returns : goal.returns
returns c = fewer_outcomes_begin
