use Rattle.std.proofs.Common.{◌==◌, sym, ◌∙◌}
use Rattle.node.proofs.Firsts.{at_position, no_position, removed_found, removed_left}
use Rattle.node.proofs.queues.take_out.Goals as goal

-- no place has this number, so none is taken out
pub returns-in_err-place-clause-found : goal.returns-in_err-place-clause-found
returns-in_err-place-clause-found g c = c.from_residual.ensures
    ∙ sym (no_position (λ x. g.T.Numbered.number_of x == c.args.number) c.args.queue.now.items
    (sym c.place_of.ensures ∙ c.in_err-place.was)).none

-- no place has this number, so the queue stays as it is
pub returns-in_err-place-clause-left : goal.returns-in_err-place-clause-left
returns-in_err-place-clause-left g c =
    sym (no_position (λ x. g.T.Numbered.number_of x == c.args.number) c.args.queue.now.items
    (sym c.place_of.ensures ∙ c.in_err-place.was)).same

-- what is taken out is the first with this number
pub returns-clause-found : goal.returns-clause-found
returns-clause-found g c =
    let at = at_position (λ x. g.T.Numbered.number_of x == c.args.number) c.args.queue.now.items c.in_ok-place.place
    (sym c.place_of.ensures ∙ c.in_ok-place.was) in
    removed_found _ _ _ _ _ at.within at.found c.args.queue.now.ok.0 c.remove.ensures.variant c.remove.ensures.value

-- the queue is left without the first with this number
pub returns-clause-left : goal.returns-clause-left
returns-clause-left g c =
    let at = at_position (λ x. g.T.Numbered.number_of x == c.args.number) c.args.queue.now.items c.in_ok-place.place
    (sym c.place_of.ensures ∙ c.in_ok-place.was) in
    removed_left _ _ _ _ _ _ at.within at.left c.args.queue.now.ok.0 c.remove.ensures.variant c.remove.ensures.items
