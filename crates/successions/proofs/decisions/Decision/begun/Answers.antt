use Rattle.std.proofs.Common.{ap, sym, ◌∙◌}
use Rattle.successions.specs.Decisions.{DecisionState}
use Rattle.successions.proofs.Rules.{begun_some}
use Rattle.successions.proofs.decisions.Decision.begun.Goals as goal

pub returns-in-Some-clause-found : goal.returns-in-Some-clause-found
returns-in-Some-clause-found c =
    begun_some c.args.self.now c.switched_in.result c.in-Some.report
    (ap (λ (d : DecisionState). d.stage) (sym c.self.view_is) ∙ c.is_looking.ensures.0 c.if-not-is_looking.false)
    (c.has_heard_all.ensures.0 c.if-not-has_heard_all.false) c.in-Some.ensures.found c.switched_in.ensures
