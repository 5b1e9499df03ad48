pub mod Marks
pub mod Faults
pub mod Named
pub mod Reports
