use Rattle.std.proofs.Common.{rules, ◌≡◌, ◌++◌, ap, ◌∙◌}
use Rattle.std.specs.VecDeque.Iter.{deque_iter_rest}
use Rattle.node.specs.declared.messages.Body.TheVariants.{Query}
use Rattle.node.specs.Servers.{ServerState, tail_of, message_to}
use Rattle.node.specs.Joining.{asked_again}
use Rattle.node.proofs.Repeats.{asked_step, asked_end}
use Rattle.node.proofs.servers.Replica.ask_again.Goals as goal

-- one open read more has asked the tail again
pub loop-read-preserved : goal.loop-read-preserved
loop-read-preserved c =
    let put : c.send.new.outputs.items ≡ c.loop-read.outputs.items ++ message_to c.args.self.now
    (tail_of c.args.self.now) (Query c.in-Some.read.now.ask c.in-Some.read.now.key) =
    search rules in
    asked_step c.args.self.now (deque_iter_rest c.loop-read.read-iterator) (deque_iter_rest c.next.new.self)
    c.in-Some.read.now _ _ _ c.in-Some.ensures.steps c.loop-read.invariant put

-- all open reads have asked the tail again
pub returns : goal.returns
returns c =
    asked_end c.args.self.now (deque_iter_rest c.loop-read.read-iterator) _ _ c.in-None.ensures.steps.0
    c.loop-read.invariant
    ∙ ap (λ rs. c.args.outputs.now.items ++ asked_again c.args.self.now rs)
    (c.into_iter-read-iterator.ensures.into_iter_gives.0 ∙ ap (λ (s : ServerState). s.asks) c.self.view_is)
