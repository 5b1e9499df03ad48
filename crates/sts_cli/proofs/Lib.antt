pub mod Alike
pub mod Ends
pub mod Given
pub mod Outsides
pub mod Reports
pub mod Runs
