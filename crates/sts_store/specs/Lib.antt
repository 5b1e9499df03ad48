pub mod Agreeing
pub mod Closing
pub mod Ending
pub mod Parts
pub mod Sharing
pub mod Stored
pub mod View
