pub mod Bounds
pub mod Groups
pub mod Outcomes
pub mod Ranges
