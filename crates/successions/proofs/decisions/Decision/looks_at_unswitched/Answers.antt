use Rattle.std.proofs.Common.{ap, sym, ◌∙◌}
use Rattle.successions.specs.Decisions.{DecisionState}
use Rattle.successions.proofs.Rules.{unswitched_iff}
use Rattle.successions.proofs.decisions.Decision.looks_at_unswitched.Goals as goal

pub returns : goal.returns
returns c =
    unswitched_iff c.args.self.now c.find.result c.is_none.result c.is_none.ensures
    (ap (λ (d : DecisionState). d.stage) (sym c.self.view_is) ∙ c.is_looking.ensures.0 c.if-not-is_looking.false)
    (c.has_heard_all.ensures.0 c.if-not-has_heard_all.false) c.find.ensures.found c.find.ensures.none
