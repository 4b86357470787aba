use Rattle.commands.proofs.Shown.{telling-beginning}
use Rattle.commands.proofs.tellings.tell_file.Goals as goal

pub returns-then-eq-clause-begun : goal.returns-then-eq-clause-begun
returns-then-eq-clause-begun g c = λ failed.
    telling-beginning c.args.telling _ _ _ _ (c.tell_source.ensures.begun failed)

pub returns-in-Ok-clause-begun : goal.returns-in-Ok-clause-begun
returns-in-Ok-clause-begun g c = λ failed.
    telling-beginning c.args.telling _ _ _ _ (c.tell_source-in-Ok.ensures.begun failed)
