use Rattle.node.proofs.SoundLaws.{updates_bound, reads_bound, least_within}
use Rattle.node.proofs.laws.rules.open_calls_are_ordered.Goals as goal

-- the ids of open updates are below the next id
pub returns-clause-updates : goal.returns-clause-updates
returns-clause-updates c = updates_bound

-- the asks of open reads are below the next ask, their lower bounds at most the commit number
pub returns-clause-reads : goal.returns-clause-reads
returns-clause-reads c = reads_bound

-- the least lower bound is from the list's own to the commit number
pub returns-clause-least : goal.returns-clause-least
returns-clause-least c = least_within
