pub mod Accepted
pub mod Costs
pub mod EveryRun
pub mod Points
pub mod Typed
pub mod Views
