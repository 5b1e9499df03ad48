pub mod Found
pub mod Lines
pub mod Only
pub mod Spelled
pub mod Steps
pub mod TooMany
