use Rattle.interleavings.proofs.relation.Following.{linearizable}
use Rattle.interleavings.proofs.runs.Simulating.{simulates}
use Rattle.interleavings.proofs.laws.every_run_is_linearizable.Goals as goal

pub returns : goal.returns
returns c count homes moves few asked = linearizable count homes (simulates count homes few) moves few asked
