use Rattle.wire.proofs.EndLaws.{read_in_order}
use Rattle.wire.proofs.stream_laws.link_is_read_in_order.Goals as goal

-- whatever has come of frames that were written, its frames are the first of these, and its end is the input's
pub returns : goal.returns
returns c = read_in_order
