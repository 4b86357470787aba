use Rattle.interleavings.proofs.restored.Laws.{order_of_life}
use Rattle.interleavings.proofs.starts.every_life_has_one_order.Goals as goal

pub returns : goal.returns
returns c first later moves s = order_of_life first later moves s
