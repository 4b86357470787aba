use Rattle.interleavings.proofs.leased.WrittenOrders.{one_written}
use Rattle.interleavings.proofs.leased_servers.leased_runs_have_one_order.Goals as goal

pub returns : goal.returns
returns c count homes moves few asked leases = one_written count homes moves leases few asked
