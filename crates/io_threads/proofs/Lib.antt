pub mod Later
pub mod Pausing
pub mod Sending
pub mod Knowing
pub mod Dealt
pub mod Sent
