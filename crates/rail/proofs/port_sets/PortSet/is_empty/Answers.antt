use Rattle.std.proofs.Common.{◌≡◌, ◌%◌, ◌∙◌, ap, arith, rules}
use Rattle.rail.specs.Ports.{has_port}
use Rattle.rail.proofs.PortBits.{has_bit, no_bit, none_set}
use Rattle.rail.proofs.port_sets.PortSet.is_empty.Goals as goal

pub returns : goal.returns
unfolding has_port
returns c = (
  λ is port.
      let none : c.args.self.now.bits ≡ 0 = search rules in
      ap (λ n. has_bit n (port % 64)) none ∙ no_bit (port % 64),
  λ without.
      let none : c.args.self.now.bits ≡ 0 = none_set c.args.self.now.bits (omega arith) without in
      search rules,
)
