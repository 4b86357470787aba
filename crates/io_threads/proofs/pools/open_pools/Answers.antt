use Rattle.std.proofs.Common.{arith}
use Rattle.io_threads.proofs.Dealt.{opened_lead, opened_of_one, opened_pools, opened_handles, opened_senders}
use Rattle.io_threads.proofs.Dealt.{opened_worker}
use Rattle.io_threads.proofs.pools.open_pools.Goals as goal

pub deal-requires : goal.deal-requires
deal-requires g c = record { server = opened_of_one _ _ _ _ _ _ _ _ c.in_ok-worker.ensures }

pub returns-in-Ok-clause-worker : goal.returns-in-Ok-clause-worker
returns-in-Ok-clause-worker g c = opened_worker _ _ _ _ _ _ _ _ c.in_ok-worker.ensures

pub returns-in-Ok-clause-pools : goal.returns-in-Ok-clause-pools
returns-in-Ok-clause-pools g c = opened_pools _ _ _ _ _ _ _ _ c.in_ok-worker.ensures _ c.in-Ok.ensures.server

pub returns-in-Ok-clause-threads : goal.returns-in-Ok-clause-threads
returns-in-Ok-clause-threads g c =
    omega (arith, c.in-Ok.ensures.count, opened_handles _ _ _ _ _ _ _ _ c.in_ok-worker.ensures)

pub returns-in-Ok-clause-inlets : goal.returns-in-Ok-clause-inlets
returns-in-Ok-clause-inlets g c = opened_lead _ _ _ _ _ _ _ _ c.in_ok-worker.ensures

pub returns-in-Ok-clause-senders : goal.returns-in-Ok-clause-senders
returns-in-Ok-clause-senders g c = opened_senders _ _ _ _ _ _ _ _ c.in_ok-worker.ensures _ c.in-Ok.ensures.senders
