-- The first two layers: shapes and addresses (`Addressed` to `FittingTurns`), logs and commit numbers (`HeldLogs`
-- to `LoggedMoves`). Each is kept by every move. Begin with `Layers` of `trace`.
pub mod Addressed
pub mod Frames
pub mod FrameMoves
pub mod HeldLogs
pub mod LastLiving
pub mod LoggedLaws
pub mod LoggedActions
pub mod LoggedEvents
pub mod LoggedMoves
pub mod FittingTurns
