-- Moves that are no event: what is on its way stays the same.
pub mod Alike
pub mod Passes
pub mod Putting
pub mod Inboxes
pub mod Arriving
pub mod Noticing
pub mod Receiving
pub mod Taking
