use Rattle.local_histories.proofs.WithoutRules.{older_follows, older_has_none}
use Rattle.local_histories.proofs.WorkedRight.{older_is_right}
use Rattle.local_histories.proofs.worked.without_boards_there_is_no_order.Goals as goal

pub returns-clause-follow : goal.returns-clause-follow
returns-clause-follow c = older_follows

pub returns-clause-none : goal.returns-clause-none
returns-clause-none c h order = older_has_none h order

pub returns-clause-right : goal.returns-clause-right
returns-clause-right c = older_is_right
