use Rattle.interleavings.proofs.examples.UsedPorts.{old_holder}
use Rattle.interleavings.proofs.worked.old_holder_has_no_order.Goals as goal

pub returns : goal.returns
returns c h order = old_holder h order
