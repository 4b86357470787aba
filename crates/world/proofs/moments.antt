-- Events are made of moves, so every schedule has its moments, at which all layers hold. Begin with `Happenings` and
-- `Moments`; `AllLaws` is what other folders use.
pub mod KnownInputs
pub mod WholeSteps
pub mod Goings
pub mod Happenings
pub mod Moments
pub mod AllLaws
