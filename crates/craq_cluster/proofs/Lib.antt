-- Lemmas of this crate.
pub mod Dealt
pub mod Standing
pub mod Wired
