use Rattle.std.proofs.Common.{refl}
use Rattle.rail.specs.Ports.{has_port}
use Rattle.rail.proofs.port_sets.PortSet.has.Goals as goal

pub returns : goal.returns
unfolding has_port
returns c = refl
