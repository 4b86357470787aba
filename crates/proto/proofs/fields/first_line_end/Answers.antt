use Rattle.proto.proofs.First.{position_from_first}
use Rattle.proto.proofs.fields.first_line_end.Goals as goal

-- the place that the vector search finds is that of the first LF
pub returns-clause-place : goal.returns-clause-place
returns-clause-place c = position_from_first _ c.args.bytes.now c.memchr.result c.memchr.ensures
