use Rattle.interleavings.proofs.quiet.Answering.{none_forgotten}
use Rattle.interleavings.proofs.laws.no_call_is_forgotten.Goals as goal

pub returns : goal.returns
returns c count homes moves few short asked quiet = none_forgotten count homes moves few short asked quiet
