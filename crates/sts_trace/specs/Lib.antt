pub mod Reading
pub mod Spelling
