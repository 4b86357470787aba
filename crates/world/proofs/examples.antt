-- Worked schedules, each with what it shows and wrong orders of its calls; and worlds in which a call is forgotten.
pub mod WorkedOrders
pub mod WorkedDirtyRead
pub mod WorkedDirtyOrder
pub mod WorkedResent
pub mod WorkedResentOrder
pub mod WorkedResentOnly
pub mod WorkedAlone
pub mod WorkedAloneOrder
pub mod WorkedInTime
pub mod WorkedInTimeOrder
pub mod WorkedInFlight
pub mod WorkedInTurn
pub mod OrdinarySteps
pub mod WorkedForgetting
