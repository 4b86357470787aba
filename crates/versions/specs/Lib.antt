pub mod Entries
pub mod Stores
pub mod Numbers
pub mod Records
pub mod Held
pub mod PackedRecords
pub mod Parts
