use Rattle.interleavings.proofs.restored.Laws.{order_from}
use Rattle.interleavings.proofs.starts.restored_runs_are_linearizable.Goals as goal

pub returns : goal.returns
returns c count homes t moves some few r numbers asked = order_from count homes t moves some few r numbers asked
