pub mod Answers
pub mod Roles
pub mod Rates
pub mod Histograms
pub mod Faults
pub mod Looks
pub mod Checks
