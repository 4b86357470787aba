use Rattle.commands.proofs.Shown.{version-beginning}
use Rattle.commands.proofs.program.run.Goals as goal

-- the fault of the file that was asked for
pub returns-in-Ok-Scenario-clause-fault : goal.returns-in-Ok-Scenario-clause-fault
returns-in-Ok-Scenario-clause-fault c = λ d not_done not_usage.
    let told = d.replay_file.ensures.fault not_done in
    (told.0, told.1, told.2, rw (d.in-Ok-Scenario.is, d.in-Ok-Scenario.field-0-is) told.3)

pub returns-in-Ok-Version-clause-begun : goal.returns-in-Ok-Version-clause-begun
returns-in-Ok-Version-clause-begun g c = λ failed.
    rw (c.in-Ok-Version.is, c.in-Ok-Version.field-0-is) (version-beginning _ _ (c.print_version.ensures.begun failed))
