pub mod Calls
pub mod Form
pub mod InLines
pub mod Lines
