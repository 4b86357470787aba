use Rattle.std.proofs.Common.{rules, ◌++◌, ap, ◌∙◌, flat_map}
use Rattle.std.specs.VecDeque.Iter.{deque_iter_rest}
use Rattle.traces.specs.Ends.{read_line}
use Rattle.traces.proofs.Growing.{rest_more, rest_end}
use Rattle.traces.proofs.ends.put_reads.Goals as goal

pub loop-read-preserved : goal.loop-read-preserved
loop-read-preserved c =
    rest_more read_line (deque_iter_rest c.loop-read.read-iterator) (deque_iter_rest c.next.new.self)
    c.in-Some.read.now _ _ _ c.in-Some.ensures.steps c.loop-read.invariant (search rules)

pub returns : goal.returns
returns c =
    rest_end read_line (deque_iter_rest c.loop-read.read-iterator) _ _ c.in-None.ensures.steps.0
    c.loop-read.invariant
    ∙ ap (λ reads. c.args.text.now ++ flat_map read_line reads)
    (ap deque_iter_rest c.into_iter-read-iterator.ensures.into_iter_gives
    ∙ c.open_reads-read-items.ensures.rest)
