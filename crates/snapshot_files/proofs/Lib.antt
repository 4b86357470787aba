pub mod Saves
pub mod Loads
