use Rattle.local_histories.proofs.WorkedUnshown.{unshown_keeps, unshown_has_none}
use Rattle.local_histories.proofs.worked.rules_alone_give_no_order.Goals as goal

pub returns-clause-rules : goal.returns-clause-rules
returns-clause-rules c = unshown_keeps

pub returns-clause-none : goal.returns-clause-none
returns-clause-none c h order = unshown_has_none h order
