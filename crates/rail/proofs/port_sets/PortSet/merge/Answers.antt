use Rattle.std.proofs.Common.{◌%◌}
use Rattle.rail.specs.Ports.{has_port}
use Rattle.rail.proofs.PortBits.{either_bit}
use Rattle.rail.proofs.port_sets.PortSet.merge.Goals as goal

pub returns : goal.returns
unfolding has_port
returns c p = either_bit c.args.self.now.bits c.args.other.bits (p % 64)
