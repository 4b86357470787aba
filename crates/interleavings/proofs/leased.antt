-- Servers with leases: one that was called gone is as good as stopped.
pub mod SeatGrowth
pub mod HomePorts
pub mod Beside
pub mod BesideMoves
pub mod LaterChains
pub mod StoppedRuns
pub mod WrittenOrders
pub mod Uncalled
pub mod UngoneCalls
pub mod ServingBeside
pub mod StoppedServing
