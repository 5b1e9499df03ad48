pub mod ExpandLemmas
pub mod SearchLemmas
pub mod StateLemmas
