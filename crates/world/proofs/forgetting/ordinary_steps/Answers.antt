use Rattle.world.proofs.examples.OrdinarySteps.{steps_as_ever, run_as_ever}
use Rattle.world.proofs.forgetting.ordinary_steps.Goals as goal

-- a server that joins as ever takes the step of `node`
pub returns-clause-step : goal.returns-clause-step
returns-clause-step c = steps_as_ever

-- with that step the world after a schedule is the ordinary one
pub returns-clause-run : goal.returns-clause-run
returns-clause-run c = run_as_ever
