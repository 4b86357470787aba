-- Ports are names: a step commutes with a renaming of ports (open calls, the rules, then joins and steps); and so
-- chains whose servers number their own seats do what the others do (begin with `SeatNames` and `RenamedChains`).
pub mod OpenCalls
pub mod RenamedRules
pub mod RenamedSteps
pub mod SeatNames
pub mod RenamedServers
pub mod RenamedChains
pub mod OwnPortMoves
pub mod OwnPortReplies
pub mod OwnPortTurns
pub mod OwnPortRuns
pub mod OpenPorts
pub mod StandingPorts
pub mod PortHolders
pub mod FreePortSends
pub mod FreePortReplies
pub mod FreePortMoves
pub mod FreePortRuns
