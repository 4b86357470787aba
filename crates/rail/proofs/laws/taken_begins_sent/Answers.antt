use Rattle.rail.proofs.Beginnings.{taken_of}
use Rattle.rail.proofs.laws.taken_begins_sent.Goals as goal

pub returns : goal.returns
returns c = taken_of
