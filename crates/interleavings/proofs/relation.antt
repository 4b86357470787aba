-- The world that stands for a running chain, at the start and along a run. Begin with `StandsFor` and `Transfer`.
pub mod StandsFor
pub mod Opening
pub mod Published
pub mod Given
pub mod Transfer
pub mod CommittedOrder
pub mod Following
pub mod Replied
