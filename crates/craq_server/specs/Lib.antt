-- What contracts of this crate speak of.
pub mod Held
pub mod Wiring
pub mod Healing
pub mod Confirmations
