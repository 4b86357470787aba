use Rattle.rail.proofs.ReplyQueues.{opens}
use Rattle.rail.proofs.reply_channels.address.Goals as goal

pub another-requires-clause-rule : goal.another-requires-clause-rule
another-requires-clause-rule g c = rw c.requires.first (opens c.args.pass.now.id _)
