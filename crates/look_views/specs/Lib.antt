pub mod Named
pub mod Scope
pub mod Stand
pub mod Task
pub mod Views
