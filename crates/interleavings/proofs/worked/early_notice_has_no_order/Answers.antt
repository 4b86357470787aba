use Rattle.interleavings.proofs.examples.WithoutRules.{early_notice}
use Rattle.interleavings.proofs.worked.early_notice_has_no_order.Goals as goal

pub returns : goal.returns
returns c h order = early_notice h order
