pub mod Faults
pub mod Scenarios
pub mod Programs
pub mod Tellings
