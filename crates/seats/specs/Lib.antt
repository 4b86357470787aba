pub mod Replies
pub mod Submitters
pub mod SeatPools
pub mod ClientConnections
pub mod SeatCallers
