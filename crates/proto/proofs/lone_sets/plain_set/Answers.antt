use Rattle.std.proofs.Common.{arith}
use Rattle.proto.proofs.LoneSetLaws.{plain_set_made}
use Rattle.proto.proofs.lone_sets.plain_set.Goals as goal

-- the parts that are cut off one after another are those of a plain set
pub returns : goal.returns
returns c =
    plain_set_made c.args.bytes.now c.in_ok-line.line.now c.split_at.result.0.now c.in_ok-after.field-0.now
    c.in_ok-flags.flags c.split_at.result.1.now c.in_ok-flags.sized.now c.in_ok-size.size c.in_ok-size.silent
    c.in_ok-size.come.now c.in_ok-block.block.now c.in_ok-block.ends.now c.in_ok-rest.rest.now c.in_ok-line.ensures
    c.split_at.ensures.by_index.0 c.in_ok-after.ensures c.in_ok-flags.ensures c.in_ok-size.ensures
    c.in_ok-block.ensures.cases c.in_ok-rest.ensures (omega arith)
