use Rattle.interleavings.proofs.restored.RestoredChains.{is_restored}
use Rattle.interleavings.proofs.starts.restored_chains_are_reached.Goals as goal

pub returns : goal.returns
returns c count homes t r some numbers = is_restored count homes t r some numbers
