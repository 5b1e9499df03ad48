pub mod Enough
pub mod Tallied
