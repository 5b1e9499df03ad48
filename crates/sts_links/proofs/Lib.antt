pub mod ChainLemmas
pub mod Changes
pub mod KeyLemmas
