pub mod MissingLemmas
pub mod PlaceLemmas
pub mod StepLemmas
pub mod TableLemmas
