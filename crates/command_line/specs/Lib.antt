pub mod Options
pub mod FileWords
pub mod ClusterWords
pub mod ProcessWords
pub mod Words
pub mod Commands
