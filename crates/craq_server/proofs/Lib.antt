pub mod Carrying
-- Lemmas of this crate.
pub mod Dealt
pub mod Sent
pub mod Standing
