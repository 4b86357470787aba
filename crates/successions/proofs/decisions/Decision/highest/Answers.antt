use Rattle.std.proofs.Common.{ap, sym, ◌∙◌}
use Rattle.successions.specs.Decisions.{higher, highest_below}
use Rattle.successions.proofs.Rules.{highest_none, highest_more}
use Rattle.successions.proofs.decisions.Decision.highest.Goals as goal

pub loop-i-init : goal.loop-i-init
loop-i-init c = highest_none c.args.self.now

pub loop-i-preserved : goal.loop-i-preserved
loop-i-preserved c =
    c.higher-highest.ensures
    ∙ ap (λ o. higher o c.accepted.result) c.loop-i.invariant
    ∙ ap (λ o. higher (highest_below c.args.self.now c.loop-i.i) o) c.accepted.ensures
    ∙ sym (highest_more c.args.self.now c.loop-i.i)
