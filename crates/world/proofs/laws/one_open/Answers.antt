use Rattle.world.proofs.shown.ShownCalls.{one_open}
use Rattle.world.proofs.laws.one_open.Goals as goal

-- at most one call of a connection is open
pub returns : goal.returns
returns c count homes events connection k here = one_open count homes events connection k here
