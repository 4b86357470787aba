pub mod Serving
pub mod Codes
pub mod Connections
pub mod Wanted
pub mod Streams
