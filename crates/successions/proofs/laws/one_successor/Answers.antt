use Rattle.successions.proofs.Moves.{is_sound}
use Rattle.successions.proofs.Followers.{one_is, has_accepted}
use Rattle.successions.proofs.laws.one_successor.Goals as goal

pub returns-clause-one : goal.returns-clause-one
returns-clause-one c members generation own w p q one other reached follows too =
    one_is members w p q one other (is_sound members generation own w reached) follows too

pub returns-clause-accepted : goal.returns-clause-accepted
returns-clause-accepted c members generation own w p i next reached follows member on =
    has_accepted members w p i next (is_sound members generation own w reached) follows member on
