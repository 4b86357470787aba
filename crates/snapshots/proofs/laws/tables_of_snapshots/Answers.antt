use Rattle.std.proofs.Common.{ap}
use Rattle.snapshots.specs.Tables.{table_of}
use Rattle.snapshots.proofs.Again.{one_snapshot}
use Rattle.snapshots.proofs.TableLaws.{again, reachable}
use Rattle.snapshots.proofs.laws.tables_of_snapshots.Goals as goal

-- the table of a snapshot is one that updates leave
pub returns-clause-reachable : goal.returns-clause-reachable
returns-clause-reachable c = reachable

-- one table for the same bytes
pub returns-clause-apart : goal.returns-clause-apart
returns-clause-apart c = λ s t is it e. ap table_of (one_snapshot s t is it e)

-- the table whose rows were written
pub returns-clause-again : goal.returns-clause-again
returns-clause-again c = again
