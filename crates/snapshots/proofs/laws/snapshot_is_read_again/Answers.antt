use Rattle.snapshots.proofs.Again.{ends_well, flawless, reads_all, reads_first}
use Rattle.snapshots.proofs.laws.snapshot_is_read_again.Goals as goal

pub returns-clause-rows : goal.returns-clause-rows
returns-clause-rows c = reads_first

pub returns-clause-flawless : goal.returns-clause-flawless
returns-clause-flawless c = flawless

pub returns-clause-all : goal.returns-clause-all
returns-clause-all c = reads_all

pub returns-clause-end : goal.returns-clause-end
returns-clause-end c = ends_well
