-- What is on its way between neighbours: forwarded entries and commit numbers, so that in a quiet world all have
-- the same log. Begin with `Streaming`; `AtRest` is what it comes to.
pub mod Streaming
pub mod ForwardRuns
pub mod Ways
pub mod Stepped
pub mod StepTellings
pub mod StreamSteps
pub mod StreamDeliveries
pub mod StreamEvents
pub mod AtRest
