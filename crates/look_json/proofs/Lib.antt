mod AnswerFloats
mod Plain
pub mod ExplainedLemmas
