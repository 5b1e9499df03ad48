pub mod Answered
mod FailedTraces
pub mod FloatLemmas
