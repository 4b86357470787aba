use Rattle.seals.proofs.Leavers.{are_quiet}
use Rattle.seals.proofs.laws.idle_members_are_quiet.Goals as goal

pub returns : goal.returns
returns c members generation threads epoch numbers w reached idle =
    are_quiet members generation threads epoch numbers w reached idle
