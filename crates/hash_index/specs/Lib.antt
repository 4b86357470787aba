pub mod Places
pub mod Rows
pub mod Entries
pub mod Tables
pub mod Indexes
pub mod Retained
