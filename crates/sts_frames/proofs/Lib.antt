pub mod LoopLemmas
pub mod LocalsLemmas
pub mod FillLemmas
