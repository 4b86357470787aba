use Rattle.snapshots.proofs.Passing.{passed_none, passed_row, passed_whole}
use Rattle.snapshots.proofs.laws.written_is_a_snapshot.Goals as goal

pub returns-clause-opened : goal.returns-clause-opened
returns-clause-opened c = passed_none

pub returns-clause-row : goal.returns-clause-row
returns-clause-row c = passed_row

pub returns-clause-whole : goal.returns-clause-whole
returns-clause-whole c = passed_whole
