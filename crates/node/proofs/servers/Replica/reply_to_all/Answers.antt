use Rattle.std.proofs.Common.{rules, ◌≡◌, ◌++◌, ap, ◌∙◌}
use Rattle.std.specs.VecDeque.Iter.{deque_iter_rest}
use Rattle.table.specs.declared.operations.Reply.TheVariants.{Value}
use Rattle.versions.specs.Stores.{value_at, last_number}
use Rattle.node.specs.Servers.{ServerState, reply_at}
use Rattle.node.specs.Joining.{replies_to}
use Rattle.node.proofs.Repeats.{replied_step, replied_end}
use Rattle.node.proofs.servers.Replica.reply_to_all.Goals as goal

-- one open read more was answered
pub loop-read-preserved : goal.loop-read-preserved
loop-read-preserved c =
    let put : c.push.new.self.items ≡ c.loop-read.outputs.items ++ reply_at c.in-Some.read.now.port
    (Value (value_at c.args.self.now.store c.in-Some.read.now.key (last_number c.args.self.now.store))) =
    search rules in
    replied_step c.args.self.now (deque_iter_rest c.loop-read.read-iterator) (deque_iter_rest c.next.new.self)
    c.in-Some.read.now _ _ _ c.in-Some.ensures.steps c.loop-read.invariant put

-- all open reads were answered
pub returns : goal.returns
returns c =
    replied_end c.args.self.now (deque_iter_rest c.loop-read.read-iterator) _ _ c.in-None.ensures.steps.0
    c.loop-read.invariant
    ∙ ap (λ rs. c.args.outputs.now.items ++ replies_to c.args.self.now rs)
    (c.into_iter-read-iterator.ensures.into_iter_gives.0 ∙ ap (λ (s : ServerState). s.asks) c.self.view_is)
