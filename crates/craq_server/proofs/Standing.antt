-- How a worker begins.
use Rattle.std.proofs.Common.{◌≡◌, subst}
use Rattle.node.specs.Nodes.{NodeState}
use Rattle.rail.specs.Workers.{WorkerState}
use Rattle.io_threads.specs.Pools.{BeginsAs}

-- a worker begins as the same node by another name
pub begins_too : (node known : NodeState) (w : WorkerState) → BeginsAs node w → node ≡ known → BeginsAs known w
begins_too node known w begins is = subst (λ n. BeginsAs n w) is begins
