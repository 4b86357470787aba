use Rattle.std.proofs.Common.{false, subst}
use Rattle.serving.specs.Connections.{IsAnswered}
use Rattle.serving.proofs.connections.Connection.rests.Goals as goal

pub returns : goal.returns
returns c = λ e. subst (IsAnswered false) c.self.view_is (c.self.invariant.1 e c.self.inside.ended c.self.inside.failed)
