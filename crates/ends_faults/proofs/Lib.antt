pub mod AllowedLemmas
pub mod ClosingLemmas
pub mod EntryLemmas
pub mod FaultLemmas
pub mod HeldLemmas
pub mod PickLemmas
pub mod PlaceLemmas
pub mod TableLemmas
