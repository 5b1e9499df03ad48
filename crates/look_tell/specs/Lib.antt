pub mod Deed
pub mod Line
pub mod Outcome
pub mod Story
pub mod Telling
pub mod Words
