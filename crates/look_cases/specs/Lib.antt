pub mod Answer
pub mod Case
pub mod Json
pub mod Lines
pub mod Objects
