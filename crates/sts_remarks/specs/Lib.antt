pub mod Idle
pub mod Unwritten
