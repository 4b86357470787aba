use Rattle.local_histories.proofs.WorkedFollowing.{set_follows, set_moves, set_stored}
use Rattle.local_histories.proofs.WorkedPair.{pair_is_opened, pair_is_right, pair_of}
use Rattle.local_histories.proofs.worked.set_and_look_follow.Goals as goal

pub returns-clause-follow : goal.returns-clause-follow
returns-clause-follow c = set_follows

pub returns-clause-moves : goal.returns-clause-moves
returns-clause-moves c = set_moves

pub returns-clause-stored : goal.returns-clause-stored
returns-clause-stored c = set_stored

pub returns-clause-opened : goal.returns-clause-opened
returns-clause-opened c = pair_is_opened

pub returns-clause-right : goal.returns-clause-right
returns-clause-right c = pair_is_right

pub returns-clause-events : goal.returns-clause-events
returns-clause-events c = pair_of
