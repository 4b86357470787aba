use Rattle.std.proofs.Common.{sym}
use Rattle.proto.proofs.LoneGetLaws.{cut_front}
use Rattle.proto.proofs.front.after.Goals as goal

-- the bytes that are left are those after the prefix
pub returns : goal.returns
returns c =
    let found = c.in_ok-rest.ensures.cases in
    cut_front c.args.bytes.now c.args.first.now c.in_ok-rest.rest.now (sym found.0) found.1
