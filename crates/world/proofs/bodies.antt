-- What the bodies of `src` rest on: a loop's test of all numbers, one connection, server or link of a list that
-- changes, and what an event is told to have done.
pub mod ConnectionLists
pub mod EventEffectLaws
pub mod ToldSteps
pub mod ServerLists
pub mod LinkLists
pub mod AllBelow
