pub mod Beginnings
pub mod Adding
pub mod Waiting
pub mod Weighing
pub mod BoardRuleLaws
pub mod Stepping
pub mod Looks
pub mod Seeing
