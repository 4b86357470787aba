-- Lists of inputs and of outputs, and functions that were changed at one place.
pub mod ChangedFunctions
pub mod Joined
pub mod TwoParts
pub mod Removed
pub mod FirstOf
