use Rattle.std.proofs.Common.{◌==◌, Some, sym, ap, ◌∙◌}
use Rattle.std.specs.Option.{option_map}
use Rattle.node.proofs.Firsts.{at_position, no_position}
use Rattle.node.proofs.queues.look_up.Goals as goal

-- no place has this number, so none is found
pub returns-in_err-place-clause-found : goal.returns-in_err-place-clause-found
returns-in_err-place-clause-found g c = ap (option_map (λ f. f.1.now)) c.from_residual.ensures
    ∙ sym (no_position (λ x. g.T.Numbered.number_of x == c.args.number) c.args.queue.now.items
    (sym c.place_of.ensures ∙ c.in_err-place.was)).none

-- what stands at the place that was found is the first with this number
pub returns-clause-found : goal.returns-clause-found
returns-clause-found g c =
    let at = at_position (λ x. g.T.Numbered.number_of x == c.args.number) c.args.queue.now.items c.in_ok-place.place
    (sym c.place_of.ensures ∙ c.in_ok-place.was) in
    ap Some c.in_ok-get.ensures.lookup ∙ sym (at.found c.in_ok-get.field-0.now)

-- the queue without that place is the queue without the first with this number
pub returns-clause-left : goal.returns-clause-left
returns-clause-left g c =
    sym (at_position (λ x. g.T.Numbered.number_of x == c.args.number) c.args.queue.now.items c.in_ok-place.place
    (sym c.place_of.ensures ∙ c.in_ok-place.was)).left
