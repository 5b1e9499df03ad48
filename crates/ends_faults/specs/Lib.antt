pub mod Allowed
pub mod Closing
pub mod Faults
pub mod Safe
