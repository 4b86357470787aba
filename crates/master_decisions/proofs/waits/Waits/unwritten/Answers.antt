use Rattle.std.proofs.Common.{sym, ap, ◌∙◌}
use Rattle.std.specs.Option.{option_map}
use Rattle.master_decisions.specs.Waits.{is_unwritten, order_of}
use Rattle.master_decisions.proofs.Firsts.{found_nowhere, found_there}
use Rattle.master_decisions.proofs.waits.Waits.unwritten.Goals as goal

-- all are written
pub returns-in_err-k : goal.returns-in_err-k
returns-in_err-k c = c.from_residual.ensures
    ∙ ap (option_map order_of) (found_nowhere is_unwritten c.args.self.now
    (sym c.place_of_unwritten.ensures ∙ c.in_err-k.was))

-- what stands at the place that is found is the first that isn't
pub returns : goal.returns
returns c =
    let at = rw (← c.self.view_is) at (sym c.place_of_unwritten.ensures ∙ c.in_ok-k.was) in
    rw (← c.self.view_is) (ap (option_map order_of) (found_there is_unwritten c.self.inside.all.items c.in_ok-k.k
    c.index.result.now at c.index.ensures))
