use Rattle.std.proofs.Common.{◌%◌}
use Rattle.rail.specs.Ports.{has_port}
use Rattle.rail.proofs.PortBits.{no_bit}
use Rattle.rail.proofs.port_sets.PortSet.new.Goals as goal

pub returns : goal.returns
unfolding has_port
returns c port = no_bit (port % 64)
