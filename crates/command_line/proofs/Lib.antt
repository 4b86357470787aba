pub mod Found
pub mod Parsers
