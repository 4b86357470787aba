use Rattle.std.proofs.Common.{rules, ◌≡◌, ◌++◌, ap, ◌∙◌}
use Rattle.std.specs.VecDeque.Iter.{deque_iter_rest}
use Rattle.versions.specs.Stores.{entries_after}
use Rattle.node.specs.declared.messages.Body.TheVariants.{Forward}
use Rattle.node.specs.Servers.{ServerState, successor_of, message_to}
use Rattle.node.specs.Joining.{forwarded}
use Rattle.node.proofs.Repeats.{forwarded_step, forwarded_end}
use Rattle.node.proofs.servers.Replica.forward_after.Goals as goal

-- one entry more was forwarded
pub loop-entry-preserved : goal.loop-entry-preserved
loop-entry-preserved c =
    let put : c.send.new.outputs.items ≡ c.loop-entry.outputs.items ++ message_to c.args.self.now (successor_of c.args.self.now)
    (Forward c.in-Some.entry.now) =
    search rules in
    forwarded_step c.args.self.now (deque_iter_rest c.loop-entry.entry-iterator) (deque_iter_rest c.next.new.self)
    c.in-Some.entry.now _ _ _ c.in-Some.ensures.steps c.loop-entry.invariant put

-- all entries above the number were forwarded
pub returns : goal.returns
returns c =
    forwarded_end c.args.self.now (deque_iter_rest c.loop-entry.entry-iterator) _ _ c.in-None.ensures.steps.0
    c.loop-entry.invariant
    ∙ ap (λ it. c.args.outputs.now.items ++ forwarded c.args.self.now (deque_iter_rest it))
    c.into_iter-entry-iterator.ensures.into_iter_gives
    ∙ ap (λ es. c.args.outputs.now.items ++ forwarded c.args.self.now es)
    (c.entries_after-entry-items.ensures.rest ∙ ap (λ (s : ServerState). entries_after s.store c.args.above)
    c.self.view_is)
