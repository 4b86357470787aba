use Rattle.world.proofs.order.OneOrder.{one_order}
use Rattle.world.proofs.laws.one_order.Goals as goal

-- each schedule over at most 16 servers has an order of its calls in which a single table would have answered
pub returns : goal.returns
returns c count homes events few = one_order count homes events few
