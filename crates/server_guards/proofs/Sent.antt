-- An output permit may go to another thread, and a lease that a server renews be asked by several.
use denote.RattleType.{RattleType}
use denote.Param.Send.{IsSend, IsSync, sendable}
use Rattle.std.proofs.Crossing.{crosses, Arc-send}
use Rattle.std.specs.contracts.sync.atomic.AtomicIn as AtomicIn
use Rattle.std.specs.declared.sync.atomic.Rule.{Ghosts}
use Rattle.leases.specs.contracts.shared_leases.AnyEnd as AnyEnd
use Rattle.leases.specs.contracts.shared_leases.AnyEndRule.TheImpl.{ghosts}
use Rattle.leases.specs.contracts.shared_leases.SharedLease as SharedLease
use Rattle.server_guards.specs.contracts.output_permits.OutputPermit as OutputPermit

-- a shared lease, whatever its rule is: its word says the same to every thread
module _ (I : RattleType) (g : Ghosts I.Denot) where
  word_send : IsSend (AtomicIn.the_row I g)
  word_send = search crosses

  word_sync : IsSync (AtomicIn.the_row I g)
  word_sync = search crosses

  lease_send : IsSend (SharedLease.the_row I g)
  lease_send = let word = word_send in search sendable depth 20

  lease_sync : IsSync (SharedLease.the_row I g)
  lease_sync = let word = word_sync in search sendable depth 20

-- a shared lease of whose ends nothing is said
abbrev pub shared : RattleType
shared = SharedLease.the_row AnyEnd.the_row ghosts

-- a shared lease that a server renews may go to another thread
pub shared_send : IsSend shared
shared_send = lease_send AnyEnd.the_row ghosts

-- and be asked by several
pub shared_sync : IsSync shared
shared_sync = lease_sync AnyEnd.the_row ghosts

-- an output permit may go to another thread
pub output_permit_send : IsSend OutputPermit.the_row
output_permit_send = let lease = Arc-send shared shared_send shared_sync in search sendable depth 20
