use Rattle.local_histories.proofs.WithoutRules.{unput_follows, unput_has_none}
use Rattle.local_histories.proofs.worked.without_links_there_is_no_order.Goals as goal

pub returns-clause-follow : goal.returns-clause-follow
returns-clause-follow c = unput_follows

pub returns-clause-none : goal.returns-clause-none
returns-clause-none c h order = unput_has_none h order
