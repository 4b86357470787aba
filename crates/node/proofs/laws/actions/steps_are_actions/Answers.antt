use Rattle.node.proofs.DoneSteps.{step_whole}
use Rattle.node.proofs.laws.actions.steps_are_actions.Goals as goal

-- each step of a lawful server is a whole one: guarded actions in turn, after which nothing is due
pub returns : goal.returns
returns c = step_whole
