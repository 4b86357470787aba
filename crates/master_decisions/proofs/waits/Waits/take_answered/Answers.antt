use Rattle.std.proofs.Common.{◌≡◌, true, false, sym, ap, ◌∙◌}
use Rattle.std.specs.Option.{option_map}
use Rattle.master_decisions.specs.Waits.{is_answered, request_of}
use Rattle.master_decisions.proofs.Firsts.{found_nowhere, found_there, left_nowhere, left_there, passes_there}
use Rattle.master_decisions.proofs.waits.Waits.take_answered.Goals as goal

-- none is answered
pub returns-in_err-k-clause-request : goal.returns-in_err-k-clause-request
returns-in_err-k-clause-request c = ap (option_map request_of) c.from_residual.ensures
    ∙ found_nowhere (is_answered c.args.own c.args.cause) c.args.self.now
    (sym c.place_of_answered.ensures ∙ c.in_err-k.was)

pub returns-in_err-k-clause-rest : goal.returns-in_err-k-clause-rest
returns-in_err-k-clause-rest c =
    left_nowhere (is_answered c.args.own c.args.cause) c.args.self.now (sym c.place_of_answered.ensures ∙ c.in_err-k.was)

-- what stands at the place that is found is answered
pub returns-in_err-answer-clause-request : goal.returns-in_err-answer-clause-request
returns-in_err-answer-clause-request c =
    let at = rw (← c.self.view_is) at (sym c.place_of_answered.ensures ∙ c.in_ok-k.was) in
    let passes = passes_there (is_answered c.args.own c.args.cause) c.self.inside.all.items c.in_ok-k.k
    c.index-waiting.result.now at c.index-waiting.ensures in
    let never : false ≡ true = rw (sym c.answer_by.ensures ∙ c.in_err-answer.was) at passes in
    absurd cc

pub returns-in_err-answer-clause-rest : goal.returns-in_err-answer-clause-rest
returns-in_err-answer-clause-rest c =
    let at = rw (← c.self.view_is) at (sym c.place_of_answered.ensures ∙ c.in_ok-k.was) in
    let passes = passes_there (is_answered c.args.own c.args.cause) c.self.inside.all.items c.in_ok-k.k
    c.index-waiting.result.now at c.index-waiting.ensures in
    let never : false ≡ true = rw (sym c.answer_by.ensures ∙ c.in_err-answer.was) at passes in
    absurd cc

-- it is the first that is, and is taken out
pub returns-clause-request : goal.returns-clause-request
returns-clause-request c =
    let at = rw (← c.self.view_is) at (sym c.place_of_answered.ensures ∙ c.in_ok-k.was) in
    rw (← c.self.view_is) (found_there (is_answered c.args.own c.args.cause) c.self.inside.all.items c.in_ok-k.k
    c.index-waiting.result.now at c.index-waiting.ensures)

pub returns-clause-rest : goal.returns-clause-rest
returns-clause-rest c =
    let at = rw (← c.self.view_is) at (sym c.place_of_answered.ensures ∙ c.in_ok-k.was) in
    rw (← c.self.view_is) (left_there (is_answered c.args.own c.args.cause) c.self.inside.all.items
    c.remove.new.self.items c.in_ok-k.k at c.remove.ensures.items)
