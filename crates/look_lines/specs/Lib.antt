pub mod Form
pub mod Lines
pub mod Naming
pub mod View
pub mod Views
pub mod Watched
