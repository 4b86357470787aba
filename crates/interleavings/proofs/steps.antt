-- A publish is a server's step, and a stop is its failure.
pub mod Awaited
pub mod Acting
pub mod StepsPublished
pub mod NoticeSteps
pub mod MessageSteps
pub mod CallSteps
pub mod Stopping
