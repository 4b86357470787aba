use Rattle.interleavings.proofs.examples.UsedPorts.{none_sent, flush_sent, flush_written, none_got}
use Rattle.interleavings.proofs.examples.CollectedReply.{collected_quiet}
use Rattle.interleavings.proofs.worked.collected_port_is_used_again.Goals as goal

pub returns-clause-waits : goal.returns-clause-waits
returns-clause-waits c = none_sent

pub returns-clause-calls : goal.returns-clause-calls
returns-clause-calls c = flush_sent

pub returns-clause-written : goal.returns-clause-written
returns-clause-written c = flush_written

pub returns-clause-lost : goal.returns-clause-lost
returns-clause-lost c = none_got

pub returns-clause-quiet : goal.returns-clause-quiet
returns-clause-quiet c = collected_quiet
