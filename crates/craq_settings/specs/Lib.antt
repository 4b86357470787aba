pub mod Hosts
pub mod Terms
