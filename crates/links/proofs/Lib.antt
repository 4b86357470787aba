pub mod Answering
pub mod Greeting
pub mod Noting
pub mod PeerLinked
pub mod Telling
pub mod Waiting
pub mod Writing
