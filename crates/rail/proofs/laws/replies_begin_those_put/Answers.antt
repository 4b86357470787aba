use Rattle.rail.proofs.Beginnings.{taken_from, same_address}
use Rattle.rail.proofs.laws.replies_begin_those_put.Goals as goal

pub returns-clause-rest : goal.returns-clause-rest
returns-clause-rest c = taken_from

pub returns-clause-address : goal.returns-clause-address
returns-clause-address c = same_address
