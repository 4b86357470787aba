use Rattle.interleavings.proofs.leased.StoppedServing.{order_before_gone, written_before_gone}
use Rattle.interleavings.proofs.leased_servers.clients_of_leased_servers_see_one_table.Goals as goal

pub returns-clause-order : goal.returns-clause-order
returns-clause-order c count homes moves few leases = order_before_gone count homes moves leases few

pub returns-clause-bytes : goal.returns-clause-bytes
returns-clause-bytes c count homes moves a n leases = written_before_gone count homes moves leases a n
