pub mod Answered
pub mod Led
