use Rattle.std.proofs.Common.{rules, ◌++◌, ap, ◌∙◌, flat_map}
use Rattle.std.specs.VecDeque.Iter.{deque_iter_rest}
use Rattle.traces.specs.Ends.{update_line}
use Rattle.traces.proofs.Growing.{rest_more, rest_end}
use Rattle.traces.proofs.ends.put_updates.Goals as goal

pub loop-update-preserved : goal.loop-update-preserved
loop-update-preserved c =
    rest_more update_line (deque_iter_rest c.loop-update.update-iterator) (deque_iter_rest c.next.new.self)
    c.in-Some.update.now _ _ _ c.in-Some.ensures.steps c.loop-update.invariant (search rules)

pub returns : goal.returns
returns c =
    rest_end update_line (deque_iter_rest c.loop-update.update-iterator) _ _ c.in-None.ensures.steps.0
    c.loop-update.invariant
    ∙ ap (λ updates. c.args.text.now ++ flat_map update_line updates)
    (ap deque_iter_rest c.into_iter-update-iterator.ensures.into_iter_gives
    ∙ c.open_updates-update-items.ensures.rest)
