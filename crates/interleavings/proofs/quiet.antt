-- A quiet chain: the world that stands for it is at rest, and so no call is forgotten. Begin with `Resting`.
pub mod Resting
pub mod Answering
