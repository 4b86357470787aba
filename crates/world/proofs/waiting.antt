-- No call is forgotten: what is on its way to answer own updates (`Opening` to `OpeningEvents`) and own reads
-- (`Asking`, `AskEvents`), that numbers are left (`Totals` to `Bounds`), and which calls wait at servers (`KeptOpen` to
-- `StageEvents`). Begin with `Opening` and `Asking`; `NoneForgotten` is what it comes to.
pub mod Opening
pub mod OwnIds
pub mod OwnEntries
pub mod HeadOps
pub mod HeadTakes
pub mod Paces
pub mod OpenSteps
pub mod OpeningSteps
pub mod OpeningInputs
pub mod OpeningEvents
pub mod Totals
pub mod Rooms
pub mod StaysOpen
pub mod KeptOpen
pub mod CallsOpened
pub mod InStep
pub mod Stages
pub mod Bounds
pub mod StageEvents
pub mod Asking
pub mod AskEvents
pub mod RestingCalls
pub mod NoneForgotten
