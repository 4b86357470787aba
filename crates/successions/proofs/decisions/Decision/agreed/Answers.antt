use Rattle.successions.proofs.Rules.{agreed_some, agreed_none}
use Rattle.successions.proofs.decisions.Decision.agreed.Goals as goal

pub returns-in-Some-clause-found : goal.returns-in-Some-clause-found
returns-in-Some-clause-found c =
    agreed_some c.args.self.now c.args.next c.agreed_on.result c.in-Some.report.standing.last
    (c.has_heard_all.ensures.0 c.if-not-has_heard_all.false) c.agreed_on.ensures.found

pub returns-in-Some-clause-none : goal.returns-in-Some-clause-none
returns-in-Some-clause-none c =
    agreed_none c.args.self.now c.args.next c.agreed_on.result c.in-Some.report c.in-Some.ensures.found
    c.agreed_on.ensures.none
