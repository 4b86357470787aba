-- Lemmas of this crate.
pub mod Dealt
