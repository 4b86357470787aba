use Rattle.local_histories.proofs.WithoutRules.{told_follows, told_has_none}
use Rattle.local_histories.proofs.WorkedTold.{told_is_right}
use Rattle.local_histories.proofs.worked.without_notices_there_is_no_order.Goals as goal

pub returns-clause-follow : goal.returns-clause-follow
returns-clause-follow c = told_follows

pub returns-clause-none : goal.returns-clause-none
returns-clause-none c h order = told_has_none h order

pub returns-clause-right : goal.returns-clause-right
returns-clause-right c = told_is_right
