use Rattle.leases.proofs.Late.{late_by_receipt, late_by_term, late_by_looking}
use Rattle.leases.proofs.laws.each_rule_is_needed.Goals as goal

pub returns-clause-stamp : goal.returns-clause-stamp
returns-clause-stamp c term wait some = late_by_receipt term wait some

pub returns-clause-margin : goal.returns-clause-margin
returns-clause-margin c = late_by_term

pub returns-clause-after : goal.returns-clause-after
returns-clause-after c term wait some = late_by_looking term wait some
