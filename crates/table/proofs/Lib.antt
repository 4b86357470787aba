pub mod Maps
pub mod Digits
pub mod TreeKeyLaws
