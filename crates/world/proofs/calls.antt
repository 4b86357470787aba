-- The other two layers: which update an entry is, where replies go, what reads showed. Each is kept by every move.
-- Begin with `Calling` and `Read` in `Layers` of `trace`; `CallsMoved` puts all together.
pub mod EntryCounts
pub mod Kept
pub mod OpenIds
pub mod StepInputs
pub mod Replying
pub mod CallsDone
pub mod ConnectionsDone
pub mod LegalLogs
pub mod CallingDone
pub mod Untouched
pub mod NewReads
pub mod ReadDone
pub mod PassiveMoves
pub mod CallsMoved
