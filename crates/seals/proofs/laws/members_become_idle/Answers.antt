use Rattle.seals.proofs.Example.{are_idle}
use Rattle.seals.proofs.laws.members_become_idle.Goals as goal

pub returns : goal.returns
returns c = are_idle
