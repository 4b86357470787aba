use Rattle.interleavings.proofs.ports.FreePortRuns.{one_order, none_forgotten}
use Rattle.interleavings.proofs.laws.calls_may_have_any_free_port.Goals as goal

pub returns-clause-order : goal.returns-clause-order
returns-clause-order c count homes ports moves few asked = one_order count homes ports moves few asked

pub returns-clause-none_forgotten : goal.returns-clause-none_forgotten
returns-clause-none_forgotten c count homes ports moves few short asked quiet =
    none_forgotten count homes ports moves few short asked quiet
