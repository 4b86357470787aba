use Rattle.std.proofs.Common.{arith}
use Rattle.std.specs.VecDeque.Iter.{deque_iter_rest}
use Rattle.node.proofs.Settling.{left_step, replies_step, left_end, replies_end, left_done, replies_done}
use Rattle.node.proofs.Orders.{rising-left_open_by}
use Rattle.node.proofs.forwarding.settle_first.Goals as goal

-- no entry is left before the count is reached: the open calls are those that all entries leave
pub returns-in_default-clause-left : goal.returns-in_default-clause-left
returns-in_default-clause-left c = left_end c.args.id c.args.count c.loop-settled._settled c.loop-settled.pend.items
    (deque_iter_rest c.loop-settled.entries) _ (c.in_default.ensures.steps.0) c.loop-settled.invariant.left

-- no entry is left before the count is reached: all replies are put out
pub returns-in_default-clause-replies : goal.returns-in_default-clause-replies
returns-in_default-clause-replies c =
    replies_end c.args.id c.args.count c.loop-settled._settled c.loop-settled.pend.items
    (deque_iter_rest c.loop-settled.entries) _ _ (c.in_default.ensures.steps.0) c.loop-settled.invariant.replies

-- one entry more has closed its call and put out its reply
pub loop-settled-preserved : goal.loop-settled-preserved
loop-settled-preserved c =
    let before = c.loop-settled.invariant in
    let made = c.in_ok-settle.ensures in
    record {
      order = rising-left_open_by c.args.id c.loop-settled.pend.items _ c.in-Some.entry.now made.left before.order;
      left = left_step c.args.id c.args.count c.loop-settled._settled c.loop-settled.pend.items
          (deque_iter_rest c.loop-settled.entries) _ _ c.in-Some.entry.now (deque_iter_rest c.next.new.self)
          c.loop-settled-test.true c.in-Some.ensures.steps made.left before.left;
      replies = replies_step c.args.id c.args.count c.loop-settled._settled c.loop-settled.pend.items
          (deque_iter_rest c.loop-settled.entries) _ _ _ _ c.in-Some.entry.now (deque_iter_rest c.next.new.self)
          c.loop-settled-test.true c.in-Some.ensures.steps made.left made.replies before.replies;
    }

-- the count is reached: the open calls are those that its entries leave
pub returns-clause-left : goal.returns-clause-left
returns-clause-left c = left_done c.args.id c.args.count c.loop-settled._settled c.loop-settled.pend.items
    (deque_iter_rest c.loop-settled.entries) _ (omega (arith, c.loop-settled-test.false)) c.loop-settled.invariant.left

-- the count is reached: the replies of its entries are put out
pub returns-clause-replies : goal.returns-clause-replies
returns-clause-replies c = replies_done c.args.id c.args.count c.loop-settled._settled c.loop-settled.pend.items
    (deque_iter_rest c.loop-settled.entries) _ _ (omega (arith, c.loop-settled-test.false))
    c.loop-settled.invariant.replies
