use Rattle.commands.proofs.Shown.{shows-beginning}
use Rattle.commands.proofs.program.replay_file.Goals as goal

pub returns-then-eq-clause-begun : goal.returns-then-eq-clause-begun
returns-then-eq-clause-begun g c = λ failed. shows-beginning c.args.file _ _ _ _ (c.scenario.ensures.begun failed).0

pub returns-in-Ok-clause-begun : goal.returns-in-Ok-clause-begun
returns-in-Ok-clause-begun g c = λ failed. shows-beginning c.args.file _ _ _ _ (c.scenario-in-Ok.ensures.begun failed).0
