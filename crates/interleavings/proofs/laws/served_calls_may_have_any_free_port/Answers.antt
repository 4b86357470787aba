use Rattle.interleavings.proofs.served.PooledOrders.{one_order_pooled, each_served, first_fits_pooled, none_open}
use Rattle.interleavings.proofs.served.PooledOrders.{served_have_all, shows_same}
use Rattle.interleavings.proofs.laws.served_calls_may_have_any_free_port.Goals as goal

pub returns-clause-order : goal.returns-clause-order
returns-clause-order c count homes ports moves few = one_order_pooled count homes ports moves few

pub returns-clause-bytes : goal.returns-clause-bytes
returns-clause-bytes c count homes ports moves a n = each_served count homes ports moves a n

pub returns-clause-kinds : goal.returns-clause-kinds
returns-clause-kinds c count homes ports moves a reply more few queued wait =
    first_fits_pooled count homes ports moves few a reply more queued wait

pub returns-clause-answered : goal.returns-clause-answered
returns-clause-answered c count homes ports moves few short quiet =
    none_open count homes ports moves few short quiet

pub returns-clause-all : goal.returns-clause-all
returns-clause-all c count homes ports moves few short quiet =
    served_have_all count homes ports moves few short quiet

pub returns-clause-same : goal.returns-clause-same
returns-clause-same c count homes ports moves = shows_same count homes ports moves
