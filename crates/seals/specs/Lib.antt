pub mod Seals
pub mod Runs
