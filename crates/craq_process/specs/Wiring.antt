-- Which parts of a process belong to which server, before its links stand.
use Rattle.std.specs.Prelude.{List, [], ◌∷◌, ◌++◌, Option, Some, None}
use Rattle.rail.specs.Inlets.{LeadTo}
use Rattle.rail.specs.Workers.{WorkerState}
use Rattle.seats.specs.SeatPools.{Pooling}
use Rattle.server_guards.specs.declared.gauges.Gauge.{Gauge}
use Rattle.server_guards.specs.declared.marks.Mark.{Mark}
use Rattle.io_threads.specs.Pools.{AreAllAt}
use Rattle.craq_process.specs.declared.opened_servers.Opened.{Opened}

-- one or none, as a list
abbrev pub listed : {A : Type 0} → Option A → List A
listed None = []
listed (Some x) = x ∷ []

-- those that are there, the last one first
abbrev pub last_first : {A : Type 0} → List (Option A) → List A
last_first [] = []
last_first (x ∷ xs) = last_first xs ++ listed x

-- the inlets that a server has lead to its worker's inbox
abbrev pub LeadsToOwnInbox : {R : Type 0} → Opened R → Type 0
LeadsToOwnInbox server = LeadTo server.pooled.worker.inbox server.pooled.inlets.items

-- What a server has beside its inlets: its worker, the seats of each thread, its mark and its gauge.
pub record Core : Type 0 where
  pub worker : WorkerState
  pub pools : List Pooling
  pub failed : Mark
  pub gauge : Gauge

-- what this server has beside its inlets
abbrev pub core_of : {R : Type 0} → Opened R → Core
core_of server =
    record {
      worker = server.pooled.worker;
      pools = server.pooled.pools.items;
      failed = server.failed;
      gauge = server.gauge;
    }

-- the seats of each thread are all of the worker's server
abbrev pub HasOwnPools : Core → Type 0
HasOwnPools core = AreAllAt core.worker.published.instance core.pools
