pub mod Lines
pub mod Nodes
pub mod Notes
pub mod Points
pub mod Relying
