pub mod Lists
pub mod Successions
pub mod Decisions
pub mod Lives
