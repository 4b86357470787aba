pub mod Opened
pub mod Sent
