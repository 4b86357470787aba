use Rattle.interleavings.proofs.examples.WithoutRules.{early_put}
use Rattle.interleavings.proofs.worked.early_put_has_no_order.Goals as goal

pub returns : goal.returns
returns c h order = early_put h order
