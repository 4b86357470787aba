use Rattle.interleavings.proofs.served.OwnPortServing.{own_order, own_served}
use Rattle.interleavings.proofs.laws.served_seats_may_have_own_ports.Goals as goal

pub returns-clause-order : goal.returns-clause-order
returns-clause-order c count homes moves few = own_order count homes moves few

pub returns-clause-bytes : goal.returns-clause-bytes
returns-clause-bytes c count homes moves a n = own_served count homes moves a n
