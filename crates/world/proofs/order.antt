-- One order of calls: the list, that it is legal, that it keeps real-time order (`Since` to `SinceRuns`), and the order
-- in which updates were given to a server (`AtHomes` to `EarlierIds`). Begin with `Placing` and `Linear`; `OneOrder` is
-- the headline.
pub mod Placing
pub mod Placings
pub mod LegalOrder
pub mod Linear
pub mod Since
pub mod SinceMoves
pub mod SinceEvents
pub mod SinceRuns
pub mod AtHomes
pub mod Spent
pub mod WithServers
pub mod Given
pub mod EarlierIds
pub mod Linearization
pub mod OneOrder
