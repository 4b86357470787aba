use Rattle.std.proofs.Common.{◌^◌, arith}
use Rattle.server_guards.proofs.Limits.{not_below}
use Rattle.server_guards.proofs.gauges.is_below.Goals as goal

pub returns-in_default : goal.returns-in_default
returns-in_default c = not_below (2 ^ 64) c.args.limit _ (omega arith) (λ small. c.in_default.ensures (omega arith))

pub returns-in-None : goal.returns-in-None
returns-in-None c = not_below (2 ^ 64) c.args.limit _ (omega arith) (λ small. c.in-None.ensures (omega arith))
