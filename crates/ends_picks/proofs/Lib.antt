pub mod BoundLemmas
pub mod GroupLemmas
pub mod ListLemmas
pub mod OutcomeLemmas
