-- What contracts of this crate speak of.
pub mod Findings
pub mod Schedulers
pub mod Senders
pub mod Wiring
