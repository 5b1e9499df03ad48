pub mod CheckedLemmas
pub mod EqualLemmas
pub mod InstrLemmas
pub mod LimitLemmas
pub mod ListLemmas
pub mod LoopLemmas
pub mod OptionLemmas
