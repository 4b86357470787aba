pub mod Spellings
pub mod ServerParts
pub mod Readings
