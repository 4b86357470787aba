use Rattle.interleavings.proofs.restored.Laws.{none_forgotten_from}
use Rattle.interleavings.proofs.starts.restored_chains_forget_no_call.Goals as goal

pub returns : goal.returns
returns c count homes t moves some few r short asked quiet =
    none_forgotten_from count homes t moves some few r short asked quiet
