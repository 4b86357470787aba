use Rattle.rail.proofs.ReplyQueues.{begins}
use Rattle.rail.proofs.reply_channels.open.Goals as goal

pub bounded_with-requires-clause-rule : goal.bounded_with-requires-clause-rule
bounded_with-requires-clause-rule c = begins
