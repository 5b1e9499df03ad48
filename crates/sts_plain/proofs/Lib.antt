pub mod Forks
pub mod Locals
pub mod Stands
