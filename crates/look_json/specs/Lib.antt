pub mod Explained
pub mod Stories
