-- Rows of connections: what a client with several updates in flight is written, and the order of its calls.
pub mod WholeBytes
pub mod Fates
pub mod Parts
pub mod RowEnds
pub mod Going
pub mod RowOrder
pub mod Answered
pub mod SentInOrder
pub mod PairsInOrder
pub mod OneSender
pub mod PooledSenders
