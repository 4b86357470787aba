-- Chains that begin with a table: which tables are reached, the replay that leads to such a chain, what that tells of
-- its runs, and chains that follow one another.
pub mod NodeSteps
pub mod Hops
pub mod Replays
pub mod Tables
pub mod ReachedTables
pub mod RestoredChains
pub mod BesideSeat
pub mod Fronts
pub mod FromTables
pub mod Leaving
pub mod HeldTables
pub mod LifeOrders
pub mod Laws
pub mod ServedFromTables
