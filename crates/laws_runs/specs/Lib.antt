pub mod Flags
pub mod Later
pub mod Runs
pub mod Scopes
pub mod Slots
pub mod States
pub mod Stays
pub mod Tallies
