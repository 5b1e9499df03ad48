pub mod Named
pub mod View
