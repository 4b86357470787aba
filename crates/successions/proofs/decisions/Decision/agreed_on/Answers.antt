use Rattle.successions.proofs.Rules.{not_ready}
use Rattle.successions.proofs.decisions.Decision.agreed_on.Goals as goal

pub returns-in-Some-clause-none : goal.returns-in-Some-clause-none
returns-in-Some-clause-none c =
    not_ready c.args.self.now c.args.next c.args.count c.in-Some.field-0 c.in-Some.ensures.found
