pub mod Ending
pub mod Piping
