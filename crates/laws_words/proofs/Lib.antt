pub mod AppendLemmas
pub mod BoolLemmas
pub mod KeyLemmas
pub mod ListLemmas
pub mod NumberLemmas
pub mod OptionLemmas
