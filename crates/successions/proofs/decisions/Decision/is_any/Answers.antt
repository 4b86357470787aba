use Rattle.std.proofs.Common.{below_more, sym, ◌∙◌}
use Rattle.successions.proofs.decisions.Decision.is_any.Goals as goal

pub loop-i-preserved : goal.loop-i-preserved
loop-i-preserved c = below_more _ _ c.loop-i.invariant (sym c.answers.ensures ∙ c.if-answers.false)
