use Rattle.std.proofs.Common.{rules}
use Rattle.proto.proofs.MeasureLaws.{tells_of, told_by, fewer_by}
use Rattle.proto.proofs.sessions.Session.next.Goals as goal

-- the read of a get's next key tells its turn
pub returns-in-Some-clause-tells : goal.returns-in-Some-clause-tells
returns-in-Some-clause-tells c = tells_of c.look.result c.args.self.now (search rules)

-- what is begun at the front tells its turn
pub returns-in-None-clause-tells : goal.returns-in-None-clause-tells
returns-in-None-clause-tells c = told_by c.begin_front.result c.args.self.now (search rules)

-- what is begun at the front leaves fewer turns
pub returns-in-None-clause-fewer : goal.returns-in-None-clause-fewer
returns-in-None-clause-fewer c = fewer_by c.begin_front.result c.args.self.now _ (search rules) (search rules)
