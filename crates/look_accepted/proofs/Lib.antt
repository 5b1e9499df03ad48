pub mod Following
pub mod Searching
