pub mod Sums
pub mod Rows
pub mod Snapshots
pub mod Progress
pub mod Fed
pub mod Readings
pub mod Histories
pub mod Tables
