use Rattle.std.proofs.Common.{refl}
use Rattle.interleavings.proofs.examples.SentSets.{in_port_order, pooled_calls}
use Rattle.interleavings.proofs.worked.ports_of_one_sender_keep_the_order.Goals as goal

pub returns-clause-senders : goal.returns-clause-senders
returns-clause-senders c a ordinal i here = refl

pub returns-clause-in_order : goal.returns-clause-in_order
returns-clause-in_order c = in_port_order

pub returns-clause-calls : goal.returns-clause-calls
returns-clause-calls c = pooled_calls
