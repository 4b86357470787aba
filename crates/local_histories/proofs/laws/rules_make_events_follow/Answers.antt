use Rattle.local_histories.proofs.LocalSteps.{each_follows}
use Rattle.local_histories.proofs.laws.rules_make_events_follow.Goals as goal

pub returns : goal.returns
returns c s es of rules steps n e here = each_follows s es of rules steps n e here
