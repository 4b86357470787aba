pub mod ArrowLaws
pub mod Blocks
pub mod EachWay
pub mod Growing
pub mod KeptHomes
pub mod RunWays
pub mod WayLaws
