use Rattle.std.proofs.Common.{ap, sym, ◌∙◌}
use Rattle.successions.specs.Decisions.{DecisionState, switches_to}
use Rattle.successions.proofs.Rules.{not_elsewhere, one_elsewhere}
use Rattle.successions.proofs.decisions.Decision.may_open.Goals as goal

pub returns-then-is_any-clause-none : goal.returns-then-is_any-clause-none
returns-then-is_any-clause-none c =
    one_elsewhere c.args.self.now c.in-Some.next
    (ap (λ (d : DecisionState). switches_to d.stage) (sym c.self.view_is) ∙ sym c.next_of.ensures ∙ c.in-Some.is)
    (c.is_any.ensures.found c.if-is_any.true)

pub returns-else-is_any-clause-found : goal.returns-else-is_any-clause-found
returns-else-is_any-clause-found c =
    not_elsewhere c.args.self.now c.in-Some.next
    (ap (λ (d : DecisionState). switches_to d.stage) (sym c.self.view_is) ∙ sym c.next_of.ensures ∙ c.in-Some.is)
    (c.is_any.ensures.none c.if-is_any.false)
