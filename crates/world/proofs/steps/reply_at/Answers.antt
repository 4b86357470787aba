use Rattle.std.proofs.Common.{sym, arith}
use Rattle.world.specs.Connections.{replied}
use Rattle.world.proofs.bodies.ConnectionLists.{set_changed, past_changed}
use Rattle.world.proofs.steps.reply_at.Goals as goal

-- at a connection that is there the reply waits, and the others stay
pub returns-then-c-len-clause-waits : goal.returns-then-c-len-clause-waits
returns-then-c-len-clause-waits c =
    set_changed c.args.connections.now.items c.args.c (λ k. replied k.stage c.args.reply k) _ _ (omega arith)
    c.index_mut.ensures.value c.replied.ensures

-- if there is no such connection, nothing changes
pub returns-else-c-len-clause-waits : goal.returns-else-c-len-clause-waits
returns-else-c-len-clause-waits c =
    sym (past_changed c.args.connections.now.items c.args.c (λ k. replied k.stage c.args.reply k) (omega arith))
