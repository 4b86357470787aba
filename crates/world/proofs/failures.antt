-- Servers that fail: who lives, and that a refused step is the failure of its server. Begin with `LivingLaws`.
pub mod FailedServers
pub mod LivingLaws
pub mod Losses
pub mod FailingRuns
