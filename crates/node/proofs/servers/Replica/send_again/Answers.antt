use Rattle.std.proofs.Common.{rules, ◌≡◌, ◌++◌, ap, ◌∙◌}
use Rattle.std.specs.VecDeque.Iter.{deque_iter_rest}
use Rattle.node.specs.declared.messages.Body.TheVariants.{Op}
use Rattle.node.specs.Servers.{ServerState, head_of, message_to}
use Rattle.node.specs.Joining.{sent_again}
use Rattle.node.proofs.Repeats.{sent_step, sent_end}
use Rattle.node.proofs.servers.Replica.send_again.Goals as goal

-- one own open call more was sent to the head again
pub loop-update-preserved : goal.loop-update-preserved
loop-update-preserved c =
    let put : c.send.new.outputs.items ≡ c.loop-update.outputs.items ++ message_to c.args.self.now
    (head_of c.args.self.now) (Op c.in-Some.update.now.id c.in-Some.update.now.call) =
    search rules in
    sent_step c.args.self.now (deque_iter_rest c.loop-update.update-iterator) (deque_iter_rest c.next.new.self)
    c.in-Some.update.now _ _ _ c.in-Some.ensures.steps c.loop-update.invariant put

-- all own open calls were sent to the head again
pub returns : goal.returns
returns c =
    sent_end c.args.self.now (deque_iter_rest c.loop-update.update-iterator) _ _ c.in-None.ensures.steps.0
    c.loop-update.invariant
    ∙ ap (λ us. c.args.outputs.now.items ++ sent_again c.args.self.now us)
    (c.into_iter-update-iterator.ensures.into_iter_gives.0 ∙ ap (λ (s : ServerState). s.pend) c.self.view_is)
