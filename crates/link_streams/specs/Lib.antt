pub mod Kept
pub mod Links
pub mod Sinks
pub mod Streams
pub mod Watches
