use Rattle.std.proofs.Common.{rules}
use Rattle.proto.proofs.RestLaws.{waits, stays}
use Rattle.proto.proofs.sessions.Session.begin_front.Goals as goal

-- with no unread byte a session waits
pub returns-then-is_empty-clause-step : goal.returns-then-is_empty-clause-step
returns-then-is_empty-clause-step c = waits c.args.self.now (search rules) (search rules)

-- with no unread byte a session stays as it was
pub returns-then-is_empty-clause-left : goal.returns-then-is_empty-clause-left
returns-then-is_empty-clause-left c = stays c.args.self.now (search rules)
