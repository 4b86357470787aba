use Rattle.std.proofs.Common.{below_more, sym, ◌∙◌}
use Rattle.successions.proofs.decisions.Decision.find.Goals as goal

pub loop-i-preserved : goal.loop-i-preserved
loop-i-preserved c = below_more _ _ c.loop-i.invariant (sym c.answering.ensures ∙ c.in_default.is)
