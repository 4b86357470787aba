use Rattle.std.proofs.Common.{rules, ◌∙◌}
use Rattle.std.proofs.lemmas.List.Sorted.{answers_always}
use Rattle.node.proofs.Orders.{searched}
use Rattle.node.proofs.queues.place_of.Goals as goal

-- in a queue in the order of its numbers the binary search finds the place of this number
pub returns : goal.returns
returns g c =
    let found = c.binary_search_by_key.ensures in
    let by = found.position g.T.Numbered.number_of (answers_always _ _ _ (λ f a r e called. search rules)) in
    c.ok.ensures.value ∙ searched g.T.Numbered.number_of c.args.number 0 c.args.queue.now.items
    c.binary_search_by_key.result c.requires.order (rw (← c.args.queue.now.ok.0) found.bound) by
