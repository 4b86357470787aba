use Rattle.local_histories.proofs.WorkedRight.{is_opened, are_of, are_right}
use Rattle.local_histories.proofs.worked.set_and_look_are_right.Goals as goal

pub returns-clause-opened : goal.returns-clause-opened
returns-clause-opened c = is_opened

pub returns-clause-events : goal.returns-clause-events
returns-clause-events c = are_of

pub returns-clause-right : goal.returns-clause-right
returns-clause-right c = are_right
