pub mod Checks
pub mod Facts
pub mod Loops
pub mod Name
pub mod Program
pub mod Shape
