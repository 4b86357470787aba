use Rattle.std.proofs.Common.{arith}
use Rattle.control_messages.proofs.Spelled.{AreNumbers-each}
use Rattle.control_messages.proofs.spelling.bytes_of.Goals as goal

-- the numbers are of eight bytes
pub returns-clause-numbers : goal.returns-clause-numbers
returns-clause-numbers c = AreNumbers-each c.args.numbers.now (λ i. omega (arith, c.type_inv.numbers i))
