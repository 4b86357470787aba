use Rattle.proto.proofs.RunTexts.{calls_have_outcomes}
use Rattle.proto.proofs.runs.calls_have_outcomes.Goals as goal

-- each call that was given has its reply or was refused, but the open one
pub returns : goal.returns
returns c = calls_have_outcomes
