use Rattle.interleavings.proofs.examples.SetsInTurn.{waits_first, published_first}
use Rattle.interleavings.proofs.worked.set_made_last_is_published_first.Goals as goal

pub returns-clause-waits : goal.returns-clause-waits
returns-clause-waits c = waits_first

pub returns-clause-published : goal.returns-clause-published
returns-clause-published c = published_first
