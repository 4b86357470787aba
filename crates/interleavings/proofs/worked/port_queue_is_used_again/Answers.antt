use Rattle.interleavings.proofs.examples.UsedPorts.{reply_queued, flush_from_queue, none_queued}
use Rattle.interleavings.proofs.worked.port_queue_is_used_again.Goals as goal

pub returns-clause-waits : goal.returns-clause-waits
returns-clause-waits c = reply_queued

pub returns-clause-written : goal.returns-clause-written
returns-clause-written c = flush_from_queue

pub returns-clause-empty : goal.returns-clause-empty
returns-clause-empty c = none_queued
