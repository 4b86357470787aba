pub mod Soundness
pub mod Lanes
pub mod Phases
pub mod Keeps
pub mod Leavers
pub mod Quiet
pub mod Example
