use Rattle.rail.proofs.Replying.{replied_message}
use Rattle.rail.proofs.outputs.put_if_reply.Goals as goal

pub returns-in-To-clause-put : goal.returns-in-To-clause-put
returns-in-To-clause-put g c =
    rw c.in-To.is (replied_message c.args.published.now 0 c.in-To.field-0 c.in-To.peer c.args.reply_senders.now.items)
