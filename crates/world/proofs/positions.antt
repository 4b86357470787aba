-- A connection along its stream: which turns it has passed, what it was sent, and what is still to come. Begin with
-- `PositionsAlong`.
pub mod FaultLaws
pub mod TurnLists
pub mod PositionsAlong
pub mod PositionsRun
pub mod Progress
