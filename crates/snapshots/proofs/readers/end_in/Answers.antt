use Rattle.snapshots.proofs.Endings.{said}
use Rattle.snapshots.proofs.readers.end_in.Goals as goal

-- 21 bytes that begin as an end does are one of these numbers
pub returns-clause-says : goal.returns-clause-says
returns-clause-says c =
    said c.args.bytes.now c.numbers_in.result.0 c.numbers_in.result.1 c.numbers_in.result.2 c.are_bytes.ensures
    c.requires.whole c.requires.end c.numbers_in.ensures.count c.numbers_in.ensures.rows c.numbers_in.ensures.sum
