-- Lists: what stands at a place, and what a change of one connection leaves.
pub mod Standing
pub mod Changed
