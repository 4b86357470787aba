-- The exit statuses of a master (this project's rule).
use Rattle.std.specs.Prelude.{◌≡◌, ◌⊎◌, ℕ}
use Rattle.master_decisions.specs.declared.faults.MasterFault.{MasterFault}
use Rattle.master_decisions.specs.declared.faults.MasterFault.TheVariants.{Memory, Refused, Run, NoServer}

-- the status of one that ends by this fault
abbrev pub status_of : MasterFault → ℕ
status_of Memory = 3
status_of (Refused i reason) = 1
status_of Run = 1
status_of NoServer = 1

-- done, a fault of the chain, or out of memory
abbrev pub IsMasterStatus : ℕ → Type 0
IsMasterStatus n = (n ≡ 0) ⊎ ((n ≡ 1) ⊎ (n ≡ 3))
