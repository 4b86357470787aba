use Rattle.interleavings.proofs.served.PortQueueRuns.{port_queues_are}
use Rattle.interleavings.proofs.laws.ports_may_have_queues.Goals as goal

pub returns : goal.returns
returns c count homes ports moves = port_queues_are count homes ports moves
