-- What a transcript shows: each call as it was begun, its reply, the sent bytes; and that no reply is dropped
-- (`Awaiting`).
pub mod ShownCalls
pub mod ShownConnections
pub mod Awaiting
