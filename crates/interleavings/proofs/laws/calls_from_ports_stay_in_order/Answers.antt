use Rattle.interleavings.proofs.rows.PooledSenders.{twin_in_order, twin_rows}
use Rattle.interleavings.proofs.laws.calls_from_ports_stay_in_order.Goals as goal

pub returns-clause-in_order : goal.returns-clause-in_order
returns-clause-in_order c port_senders senders count homes ports moves own order =
    twin_in_order port_senders senders count homes ports moves own order

pub returns-clause-order : goal.returns-clause-order
returns-clause-order c port_senders senders count homes ports moves few own order =
    twin_rows port_senders senders count homes ports moves own order few
