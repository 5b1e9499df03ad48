pub mod AlikeLemmas
pub mod EffectLemmas
pub mod EventLemmas
pub mod MadeLemmas
pub mod NameLemmas
pub mod ReadLemmas
