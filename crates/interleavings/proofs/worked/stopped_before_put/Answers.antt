use Rattle.interleavings.proofs.examples.QuietRuns.{cut_left, cut_stored, cut_quiet, cut_asked}
use Rattle.interleavings.proofs.worked.stopped_before_put.Goals as goal

pub returns-clause-left : goal.returns-clause-left
returns-clause-left c = cut_left

pub returns-clause-stored : goal.returns-clause-stored
returns-clause-stored c = cut_stored

pub returns-clause-quiet : goal.returns-clause-quiet
returns-clause-quiet c = cut_quiet

pub returns-clause-asked : goal.returns-clause-asked
returns-clause-asked c = cut_asked
