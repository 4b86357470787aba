use Rattle.interleavings.proofs.ports.RenamedSteps.{step_renamed}
use Rattle.interleavings.proofs.laws.ports_are_names.Goals as goal

pub returns : goal.returns
returns c f s input = step_renamed f s input
