use Rattle.interleavings.proofs.ports.OwnPortRuns.{one_order}
use Rattle.interleavings.proofs.ports.SeatNames.{ports_apart, ports_below}
use Rattle.interleavings.proofs.laws.seats_may_have_own_ports.Goals as goal

pub returns-clause-order : goal.returns-clause-order
returns-clause-order c count homes moves few asked = one_order count homes moves few asked

pub returns-clause-apart : goal.returns-clause-apart
returns-clause-apart c homes a b i here there same = ports_apart homes a b i here there same

pub returns-clause-from_zero : goal.returns-clause-from_zero
returns-clause-from_zero c homes a i here = ports_below homes a i here
