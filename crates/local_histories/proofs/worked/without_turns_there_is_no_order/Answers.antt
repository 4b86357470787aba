use Rattle.local_histories.proofs.WithoutRules.{early_follows, early_has_none}
use Rattle.local_histories.proofs.worked.without_turns_there_is_no_order.Goals as goal

pub returns-clause-follow : goal.returns-clause-follow
returns-clause-follow c = early_follows

pub returns-clause-none : goal.returns-clause-none
returns-clause-none c h order = early_has_none h order
