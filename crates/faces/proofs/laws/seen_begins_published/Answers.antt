use Rattle.faces.proofs.Seeing.{each_begins, any_two}
use Rattle.faces.proofs.laws.seen_begins_published.Goals as goal

pub returns-clause-each : goal.returns-clause-each
returns-clause-each c = each_begins

pub returns-clause-any_two : goal.returns-clause-any_two
returns-clause-any_two c = any_two
