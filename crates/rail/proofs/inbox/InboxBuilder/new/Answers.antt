use Rattle.rail.proofs.Delivering.{begins}
use Rattle.rail.proofs.inbox.InboxBuilder.new.Goals as goal

pub bounded_with-requires-clause-rule : goal.bounded_with-requires-clause-rule
bounded_with-requires-clause-rule c = begins
