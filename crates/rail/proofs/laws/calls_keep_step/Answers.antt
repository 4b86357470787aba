use Rattle.rail.proofs.Stepping.{others_step, own_step}
use Rattle.rail.proofs.laws.calls_keep_step.Goals as goal

pub returns-clause-own : goal.returns-clause-own
returns-clause-own c = own_step

pub returns-clause-others : goal.returns-clause-others
returns-clause-others c = others_step
