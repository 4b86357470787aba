use Rattle.snapshots.proofs.Reading.{read_head, read_none, read_piece, read_row, read_whole}
use Rattle.snapshots.proofs.laws.what_is_read_is_a_snapshot.Goals as goal

pub returns-clause-unopened : goal.returns-clause-unopened
returns-clause-unopened c = read_none

pub returns-clause-piece : goal.returns-clause-piece
returns-clause-piece c = read_piece

pub returns-clause-head : goal.returns-clause-head
returns-clause-head c = read_head

pub returns-clause-row : goal.returns-clause-row
returns-clause-row c = read_row

pub returns-clause-whole : goal.returns-clause-whole
returns-clause-whole c = read_whole
