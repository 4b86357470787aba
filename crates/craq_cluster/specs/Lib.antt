-- What contracts of this crate speak of.
pub mod Wiring
