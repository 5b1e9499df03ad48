pub mod Named
pub mod Printable
