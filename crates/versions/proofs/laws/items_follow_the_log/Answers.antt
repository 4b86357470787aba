use Rattle.versions.proofs.Logs.{item-changed}
use Rattle.versions.proofs.Holding.{items_after-append}
use Rattle.versions.proofs.laws.items_follow_the_log.Goals as goal

-- after a change a key has what it puts, nothing if it clears, and else what was there
pub returns-clause-changed : goal.returns-clause-changed
returns-clause-changed c = item-changed

-- the items after two lists of entries are those after the second, from those after the first
pub returns-clause-after_both : goal.returns-clause-after_both
returns-clause-after_both c = items_after-append
