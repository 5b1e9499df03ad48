pub mod Calls
pub mod Ends
pub mod Outcome
