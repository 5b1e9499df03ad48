pub mod ChangeLemmas
pub mod Room
pub mod UnsharedLemmas
pub mod WalkLemmas
