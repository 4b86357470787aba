pub mod InProcessLinks
pub mod Reached
pub mod ServerSets
