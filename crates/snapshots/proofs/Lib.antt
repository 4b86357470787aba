pub mod RowLaws
pub mod Feeding
pub mod Passing
pub mod Endings
pub mod Reading
pub mod Again
pub mod Taking
pub mod TableLaws
