use Rattle.std.proofs.Common.{sym, ◌∙◌}
use Rattle.successions.proofs.Rules.{are_accepted, is_unaccepted_one, adopted_is, nothing_highest}
use Rattle.successions.proofs.decisions.Decision.adoptable.Goals as goal

pub returns-then-is_some-clause-none : goal.returns-then-is_some-clause-none
returns-then-is_some-clause-none c next adopted =
    let one = is_unaccepted_one c.args.self.now c.find.result (sym c.is_some.ensures
    ∙ c.if-is_some.true) c.find.ensures.found in
    adopted.all one.by one.report one.tells one.nothing

pub returns-in-Some-clause-found : goal.returns-in-Some-clause-found
returns-in-Some-clause-found c =
    adopted_is c.args.self.now c.in-Some.acceptance (c.looks_at_unswitched.ensures.0 c.if-not-looks_at_unswitched.false)
    (are_accepted c.args.self.now c.find.result (sym c.is_some.ensures ∙ c.if-is_some.false) c.find.ensures.none)
    (sym c.highest.ensures ∙ c.in-Some.is)

pub returns-in-None-clause-none : goal.returns-in-None-clause-none
returns-in-None-clause-none c next adopted =
    nothing_highest c.args.self.now adopted.highest (sym c.highest.ensures ∙ c.in-None.is) adopted.is
