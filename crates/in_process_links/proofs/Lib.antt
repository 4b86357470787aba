pub mod Linked
pub mod ServerBits
