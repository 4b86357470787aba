use Rattle.std.proofs.Common.{arith}
use Rattle.control_messages.proofs.WholeMessages.{is_found, is_only}
use Rattle.control_messages.proofs.readers.decode.Goals as goal

pub returns-clause-found : goal.returns-clause-found
returns-clause-found c =
    is_found c.args.bytes.now c.message_in.result (λ i. omega (arith, c.type_inv.bytes i)) c.message_in.ensures

pub returns-clause-only : goal.returns-clause-only
returns-clause-only c = λ m s. is_only c.args.bytes.now c.message_in.result m c.message_in.ensures s
