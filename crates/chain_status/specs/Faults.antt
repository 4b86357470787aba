-- What may be wrong with a chain, and how bad it is (this project's rule).
use Rattle.std.specs.Prelude.{ℕ, List, ◌∷◌, ◌++◌, [], fold, Option, Some, None}
use Rattle.chain_status.specs.declared.faults.Fault.{Fault}
use Rattle.chain_status.specs.declared.faults.Fault.TheVariants.{NoneLeft, NoneAnswers, LastOne, Gone, NoConnection}
use Rattle.chain_status.specs.declared.faults.Fault.TheVariants.{Stranger, NoAnswer, Unaware, Stalled, LeaseOver, Stuck}
use Rattle.chain_status.specs.declared.faults.Fault.TheVariants.{MemoryFull, MemoryHigh, ConnectionsFull, OtherVersion}
use Rattle.chain_status.specs.declared.faults.Fault.TheVariants.{StartedAnew}
use Rattle.chain_status.specs.declared.standings.Standing.{Standing}
use Rattle.chain_status.specs.declared.standings.Standing.TheVariants.{Whole, Fewer, Stopped}

-- What a fault means: updates can't go on; or the chain has fewer servers; or it is a warning.
abbrev pub standing_by : Fault → Standing
standing_by NoneLeft = Stopped
standing_by NoneAnswers = Stopped
standing_by (NoConnection i why) = Stopped
standing_by (Stranger i why) = Stopped
standing_by (NoAnswer i) = Stopped
standing_by (Unaware i gone) = Stopped
standing_by (Stalled i others) = Stopped
standing_by (LeaseOver i) = Stopped
standing_by (Stuck i) = Stopped
standing_by (MemoryFull i) = Stopped
standing_by (LastOne i) = Fewer
standing_by (Gone i) = Fewer
standing_by (MemoryHigh i) = Whole
standing_by (ConnectionsFull i) = Whole
standing_by (OtherVersion i) = Whole
standing_by (StartedAnew i) = Whole

-- the server that a fault is of
abbrev pub server_in : Fault → Option ℕ
server_in NoneLeft = None
server_in NoneAnswers = None
server_in (LastOne i) = Some i
server_in (Gone i) = Some i
server_in (NoConnection i why) = Some i
server_in (Stranger i why) = Some i
server_in (NoAnswer i) = Some i
server_in (Unaware i gone) = Some i
server_in (Stalled i others) = Some i
server_in (LeaseOver i) = Some i
server_in (Stuck i) = Some i
server_in (MemoryFull i) = Some i
server_in (MemoryHigh i) = Some i
server_in (ConnectionsFull i) = Some i
server_in (OtherVersion i) = Some i
server_in (StartedAnew i) = Some i

-- the worse one of two
abbrev pub worse : Standing → Standing → Standing
worse Stopped other = Stopped
worse Fewer Stopped = Stopped
worse Fewer Fewer = Fewer
worse Fewer Whole = Fewer
worse Whole other = other

-- how a chain with these faults stands: as the worst of them says
abbrev pub standing_of : List Fault → Standing
standing_of faults = fold (λ standing fault. worse standing (standing_by fault)) Whole faults

-- 0: it is whole, and serves; 1: it serves with fewer servers; 2: updates can't go on
abbrev pub exit_status : Standing → ℕ
exit_status Whole = 0
exit_status Fewer = 1
exit_status Stopped = 2

-- these, and one that was found
abbrev pub with_one : List Fault → Option Fault → List Fault
with_one faults None = faults
with_one faults (Some fault) = faults ++ fault ∷ []

-- these, and those that were found, in their order
abbrev pub with_found : List Fault → List (Option Fault) → List Fault
with_found faults found = fold with_one faults found
