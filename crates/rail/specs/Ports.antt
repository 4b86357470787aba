-- Sets of ports.
use Rattle.std.specs.Prelude.{ℕ, ◌/◌, ◌^◌, ◌%◌, ◌==◌, Bool, bit_and}
use Rattle.rail.specs.declared.port_sets.PortSet.{PortSet}

-- whether a set has a port: ports that lie 64 apart share a bit
unfoldable pub has_port : PortSet → ℕ → Bool
has_port set port = bit_and (set.bits / 2 ^ (port % 64)) 1 == 1
