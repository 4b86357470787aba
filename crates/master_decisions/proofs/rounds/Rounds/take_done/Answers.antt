use Rattle.std.proofs.Common.{sym, ap, ◌∙◌}
use Rattle.master_decisions.specs.Rounds.{RoundsState, is_done, with_under_way}
use Rattle.master_decisions.proofs.Firsts.{found_nowhere, found_there, left_nowhere, left_there}
use Rattle.master_decisions.proofs.rounds.Rounds.take_done.Goals as goal

-- no round is done
pub returns-in_err-k-clause-done : goal.returns-in_err-k-clause-done
returns-in_err-k-clause-done c = c.from_residual.ensures
    ∙ found_nowhere is_done c.args.self.now.under_way (sym c.place_of_done.ensures ∙ c.in_err-k.was)

pub returns-in_err-k-clause-state : goal.returns-in_err-k-clause-state
returns-in_err-k-clause-state c =
    ap (with_under_way c.args.self.now) (left_nowhere is_done c.args.self.now.under_way
    (sym c.place_of_done.ensures ∙ c.in_err-k.was))

-- the round at the place that is found is the first that is
pub returns-clause-done : goal.returns-clause-done
returns-clause-done c =
    let at = rw (← c.self.view_is) at (sym c.place_of_done.ensures ∙ c.in_ok-k.was) in
    rw (← c.self.view_is) (found_there is_done c.self.inside.under_way.items c.in_ok-k.k c.remove.result at
    c.remove.ensures.value)

pub returns-clause-state : goal.returns-clause-state
returns-clause-state c =
    let at = rw (← c.self.view_is) at (sym c.place_of_done.ensures ∙ c.in_ok-k.was) in
    let start : RoundsState = record {
      next = c.self.inside.next;
      under_way = c.self.inside.under_way.items;
      again = c.self.inside.again;
    } in
    rw (← c.self.view_is) (ap (with_under_way start) (left_there is_done c.self.inside.under_way.items
    c.remove.new.self.items c.in_ok-k.k at c.remove.ensures.items))
