use Rattle.std.proofs.Common.{◌%◌, arith}
use Rattle.rail.specs.Ports.{has_port}
use Rattle.rail.proofs.PortBits.{one_more_bit}
use Rattle.rail.proofs.port_sets.PortSet.add.Goals as goal

pub returns : goal.returns
unfolding has_port
returns c p = one_more_bit c.args.self.now.bits (c.args.port % 64) (p % 64) (omega arith)
