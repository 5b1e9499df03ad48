pub mod Arrivals
pub mod Passing
pub mod Room
pub mod Simple
pub mod Site
pub mod Tables
pub mod Typing
