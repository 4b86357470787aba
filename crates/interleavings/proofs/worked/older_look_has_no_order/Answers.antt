use Rattle.interleavings.proofs.examples.WithoutRules.{older_look}
use Rattle.interleavings.proofs.worked.older_look_has_no_order.Goals as goal

pub returns : goal.returns
returns c h order = older_look h order
