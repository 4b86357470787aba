use Rattle.successions.proofs.Moves.{is_sound}
use Rattle.successions.proofs.Followers.{has_left}
use Rattle.successions.proofs.laws.opens_after_looks.Goals as goal

pub returns : goal.returns
returns c members generation own w p i next reached was started member =
    has_left members w p i next (is_sound members generation own w reached) was started member
