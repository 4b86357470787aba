pub mod Lists
pub mod Logs
pub mod Bases
pub mod Holding
pub mod StoreLaws
