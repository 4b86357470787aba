use Rattle.std.proofs.Common.{sym, ap, ◌∙◌}
use Rattle.std.specs.Option.{option_map}
use Rattle.master_decisions.specs.Rounds.{RoundsState, answered, has_number, matter_of, with_under_way}
use Rattle.master_decisions.proofs.Firsts.{changed_nowhere, changed_there, found_nowhere, found_there}
use Rattle.master_decisions.proofs.rounds.Rounds.answer.Goals as goal

-- no round has this number
pub returns-in_err-k-clause-matter : goal.returns-in_err-k-clause-matter
returns-in_err-k-clause-matter c = c.from_residual.ensures
    ∙ ap (option_map matter_of) (found_nowhere (has_number c.args.number) c.args.self.now.under_way
    (sym c.place_of.ensures ∙ c.in_err-k.was))

pub returns-in_err-k-clause-state : goal.returns-in_err-k-clause-state
returns-in_err-k-clause-state c =
    ap (with_under_way c.args.self.now) (changed_nowhere (has_number c.args.number)
    (answered c.args.i c.args.answer) c.args.self.now.under_way (sym c.place_of.ensures ∙ c.in_err-k.was))

-- the round at the place that is found is the first of this number
pub returns-clause-matter : goal.returns-clause-matter
returns-clause-matter c =
    let at = rw (← c.self.view_is) at (sym c.place_of.ensures ∙ c.in_ok-k.was) in
    rw (← c.self.view_is) (ap (option_map matter_of) (found_there (has_number c.args.number)
    c.self.inside.under_way.items c.in_ok-k.k c.index.result.now at c.index.ensures))

pub returns-clause-state : goal.returns-clause-state
returns-clause-state c =
    let at = rw (← c.self.view_is) at (sym c.place_of.ensures ∙ c.in_ok-k.was) in
    let start : RoundsState = record {
      next = c.self.inside.next;
      under_way = c.self.inside.under_way.items;
      again = c.self.inside.again;
    } in
    rw (← c.self.view_is) (ap (with_under_way start) (changed_there (has_number c.args.number)
    (answered c.args.i c.args.answer) c.self.inside.under_way.items c.in_ok-k.k c.index_mut.result.now
    c.answer.new.self at c.index_mut.ensures.value c.answer.ensures))
