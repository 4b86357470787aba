use Rattle.interleavings.proofs.restored.Laws.{held_reached}
use Rattle.interleavings.proofs.starts.held_tables_are_reached.Goals as goal

pub returns : goal.returns
returns c count homes t u moves some few r numbers asked held =
    held_reached count homes t u moves some few r numbers asked held
