use Rattle.interleavings.proofs.examples.UsedPorts.{flush_waits, set_stored, flushed, port_moves_asked}
use Rattle.interleavings.proofs.worked.port_is_used_again.Goals as goal

pub returns-clause-waits : goal.returns-clause-waits
returns-clause-waits c = flush_waits

pub returns-clause-first : goal.returns-clause-first
returns-clause-first c = set_stored

pub returns-clause-second : goal.returns-clause-second
returns-clause-second c = flushed

pub returns-clause-asked : goal.returns-clause-asked
returns-clause-asked c = port_moves_asked
