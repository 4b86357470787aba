use Rattle.snapshots.proofs.Again.{one_snapshot}
use Rattle.snapshots.proofs.laws.one_snapshot.Goals as goal

pub returns : goal.returns
returns c = one_snapshot
