use Rattle.leases.proofs.Sparing.{cut_off_waits}
use Rattle.leases.proofs.laws.cut_off_masters_wait.Goals as goal

pub returns : goal.returns
returns c m id now epoch other cut within = cut_off_waits m id now epoch other cut within
