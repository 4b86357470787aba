use Rattle.interleavings.proofs.examples.UsedPorts.{taken_port}
use Rattle.interleavings.proofs.worked.taken_port_has_no_order.Goals as goal

pub returns : goal.returns
returns c h order = taken_port h order
