pub mod ClientSockets
pub mod Clients
pub mod Dealing
pub mod KnownClients
pub mod Pools
