use Rattle.std.proofs.Common.{◌≡◌, ap, sym, ◌∙◌, subst}
use Rattle.successions.specs.declared.members.Members.{Members}
use Rattle.successions.specs.declared.stages.Stage.TheVariants.{Proposing}
use Rattle.successions.specs.Decisions.{DecisionState, AreAgreed}
use Rattle.successions.proofs.decisions.Decision.decided.Goals as goal

proposed_one : {x y : Members} → Proposing x ≡ Proposing y → x ≡ y
proposed_one e = cc

pub returns-in-None-clause-none : goal.returns-in-None-clause-none
returns-in-None-clause-none c next count decided =
    let same : c.in-Proposing.next ≡ next = proposed_one
    (sym (ap (λ (d : DecisionState). d.stage) (sym c.self.view_is) ∙ c.in-Proposing.is) ∙ decided.proposed) in
    c.in-None.ensures.none count (subst (λ m. AreAgreed c.args.self.now m count) (sym same) decided.agreed)
