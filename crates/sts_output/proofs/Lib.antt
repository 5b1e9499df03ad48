pub mod ReasonLemmas
pub mod RunLemmas
pub mod Splits
pub mod StopLemmas
pub mod Takes
