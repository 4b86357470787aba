pub mod Walks
pub mod GoingAhead
pub mod Reaching
pub mod Stepping
pub mod Served
pub mod Streamed
mod Resting
