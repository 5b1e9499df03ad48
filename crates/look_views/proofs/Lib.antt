pub mod Floats
pub mod LineLemmas
pub mod ListLemmas
pub mod NamedFloatLemmas
mod StandLemmas
