pub mod Spellings
pub mod Lengths
pub mod Parts
pub mod Grammar
pub mod Fronts
pub mod Streams
pub mod Ends
