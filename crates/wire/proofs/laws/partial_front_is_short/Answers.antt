use Rattle.wire.proofs.FrameLengths.{partial_is_short, short_by_one}
use Rattle.wire.proofs.laws.partial_front_is_short.Goals as goal

-- a front that waits is shorter than the longest frame
pub returns-clause-short : goal.returns-clause-short
returns-clause-short c = partial_is_short

-- some front that waits is shorter than the longest frame by one byte alone
pub returns-clause-sharp : goal.returns-clause-sharp
returns-clause-sharp c = short_by_one
